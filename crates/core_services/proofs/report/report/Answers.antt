-- A development error is the one notification; any other reason has none.
use Prim.Native.Nat.{ℕ}
use mathlib.Core.Path.{◌≡◌, refl, sym, ap, ◌∙◌}
use mathlib.Core.Bool.{true, false}
use mathlib.Core.List.{[], ◌∷◌}
use borrow.Author.Tests.{lt-ltb, le-ltb}
use Rattle.rules.specs.Reason.{is_development_error}
use Rattle.rules.specs.Notification.{development_error, sheet_after}
use Rattle.core_layout.proofs.Placed.{put_first}
use Rattle.core_answers.specs.Answer.{reason_of}
use Rattle.core_answers.proofs.Laws.{noted_none}
use Rattle.core_services.proofs.report.report.Goals as goal

pub returns-then-error-lt-FIRST_OWN_REASON : goal.returns-then-error-lt-FIRST_OWN_REASON
returns-then-error-lt-FIRST_OWN_REASON c =
    let number = c.reason-error in
    let error : is_development_error (reason_of c.args.r) ≡ true = rw (sym number.ensures) (lt-ltb _ _ c.if-error-lt-FIRST_OWN_REASON.true) in
    rw error
    (record {
      count_is = refl;
      sheet_is =
          put_first (development_error c.args.service number.result) c.args.sheet.now c.put.ensures
          ∙ ap (λ (e : ℕ). sheet_after (development_error c.args.service e ∷ []) c.args.sheet.now) number.ensures;
    })

pub returns-else-error-lt-FIRST_OWN_REASON : goal.returns-else-error-lt-FIRST_OWN_REASON
returns-else-error-lt-FIRST_OWN_REASON c =
    let own : is_development_error (reason_of c.args.r) ≡ false = rw (sym c.reason-error.ensures) (le-ltb _ _ c.if-error-lt-FIRST_OWN_REASON.false) in
    rw own (noted_none c.args.sheet.now)
