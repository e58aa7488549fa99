-- The frame fills its object, and the mailbox is full.
use mathlib.Core.Path.{refl, sym, ap}
use lib.ListN.{length}
use Rattle.rules.specs.Reason.{return_code}
use Rattle.rules.specs.Configuration.{settings_at}
use Rattle.rules.specs.Can.{Settings, can_format}
use Rattle.laws.proofs.Sheets.{sheet_none}
use Rattle.can_layout.proofs.Placed.{object_room, laid_whole}
use Rattle.can_arrivals.proofs.received.store.Goals as goal

pub returns-clause-performed : goal.returns-clause-performed
unfolding return_code
returns-clause-performed g c sheet =
    let a = c.args in
    let room = object_room a.object (length a.sdu.now) a.ram.now c.requires.object_lt_objects.0 c.requires.ram_len.0 c.requires.ram_len.1 in
    record {
      code_is = refl;
      reason_is = refl;
      answer_is = refl;
      state_is = rw (c.set_mailbox.ensures.core, c.filled_mailbox.ensures);
      count_is = refl;
      ram_is = laid_whole (settings_at can_format (g.S.SettingsList.places a.settings.now) a.object) c.lay_down.ensures room (ap (λ (s : Settings). s.padding) c.settings-padding.ensures);
      sheet_is = sym (sheet_none sheet);
    }
