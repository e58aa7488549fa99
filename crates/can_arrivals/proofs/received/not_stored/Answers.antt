-- By the case of the pick; the one notification is the sheet's first.
use mathlib.Core.Path.{refl, sym}
use Rattle.rules.specs.Reason.{return_code}
use Rattle.rules.specs.Notification.{data_lost}
use Rattle.laws.proofs.Sheets.{sheet_none}
use Rattle.core_layout.proofs.Placed.{put_first}
use Rattle.can_arrivals.proofs.received.not_stored.Goals as goal

pub returns-in-None : goal.returns-in-None
unfolding return_code
returns-in-None c s ram =
    let sheet = c.args.sheet.now in
    rw c.in-None.is (record { code_is = refl; reason_is = refl; answer_is = refl; state_is = refl; count_is = refl; ram_is = refl; sheet_is = sym (sheet_none sheet) })

pub returns-in-Some : goal.returns-in-Some
unfolding return_code
returns-in-Some c s ram =
    rw c.in-Some.is
    (record {
      code_is = refl;
      reason_is = refl;
      answer_is = refl;
      state_is = refl;
      count_is = refl;
      ram_is = refl;
      sheet_is = put_first (data_lost c.in-Some.best.number) c.args.sheet.now c.put.ensures;
    })
