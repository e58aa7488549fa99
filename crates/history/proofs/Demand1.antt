-- Demand 1, proved: a refusal leaves all as it was but for its one error record, and a sound state leads only to sound ones.
use mathlib.Core.Path.{◌≡◌, refl}
use mathlib.Core.Bool.{false}
use lib.Dec.{eqb}
use Rattle.rules.specs.Limits.{Limits}
use Rattle.rules.specs.Format.{Format, Lawful}
use Rattle.rules.specs.Reason.{E_OK}
use Rattle.history.specs.Trace.{is_accepted}
use Rattle.history.specs.Demand1.{Refused, RefusalRule, ValidRule}
use Rattle.laws.proofs.Tests.{clash}
use Rattle.history.proofs.Judged.{judgement, performed_cases}
use Rattle.history.proofs.Steps.{performed_valid}

pub refusal_rule : (L : Limits) (F : Format) → RefusalRule L F
refusal_rule L F call s ram =
    performed_cases L F (λ e o. is_accepted o ≡ false → Refused F call s ram o) call s ram
    (λ refused t. record { state_kept = refl; ram_kept = refl; error_told = refl })
    (λ r t. clash {b = eqb (judgement L F call s ram).done.code E_OK} (rw (judgement L F call s ram).done_code) t)

pub valid_rule : (L : Limits) (F : Format) → Lawful L F → ValidRule L F
valid_rule = performed_valid
