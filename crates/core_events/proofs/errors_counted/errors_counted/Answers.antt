-- The gate's verdict and the event's own are the rules' reason. The controller of an accepted event is in use, and is stored there with its
-- counts; a refused one leaves everything as it was.
use Prim.Native.Nat.{ℕ, ◌<◌}
use mathlib.Core.Path.{◌≡◌, refl, sym, ap, ap₂, ◌∙◌}
use mathlib.Core.Bool.{Bool, not}
use mathlib.Core.List.{List, [], ◌∷◌}
use native.Mathlib.Omega.{arith}
use lib.Dec.{ltb}
use lib.ListN.{set}
use borrow.Author.Tests.{ltb-true}
use Rattle.rules.specs.Reason.{Check, ◌if◌, first_reason, ◌then◌, reasons_named, ERROR_COUNT_TOO_LARGE}
use Rattle.rules.specs.Errors.{Errors, within_limit}
use Rattle.rules.specs.Core.{Controller, Core, with_controllers, with_errors}
use Rattle.rules.specs.Outcome.{no_answer, no_report}
use Rattle.rules.specs.Events.{errors_counted, counted_controller, counted_errors}
use Rattle.laws.proofs.Tests.{not_false}
use Rattle.laws.proofs.Reasons.{then_first, then_second, check_passed}
use Rattle.core_places.specs.View.{view_controller}
use Rattle.core_answers.specs.Answer.{verdict_reason}
use Rattle.core_answers.proofs.Laws.{behind, reason_named, noted_none, told_performed, refused_performed}
use Rattle.core_events.specs.Checks.{on_bus_checks}
use Rattle.core_events.proofs.Laws.{on_bus_read}
use Rattle.core_events.proofs.errors_counted.errors_counted.Goals as goal

-- the limits of both counts
abbrev limits_on : ℕ → ℕ → List Check
limits_on transmit receive = ERROR_COUNT_TOO_LARGE if not (within_limit transmit receive) ∷ []

-- where no reason applies, the gate lets the call pass, and the controller is in use
passed : (gate transmit receive c count : ℕ) (initialised : Bool) (k : Controller) → (gate then first_reason (on_bus_checks initialised (ltb c count) k) then first_reason (limits_on transmit receive)) ≡ 0
    → (gate ≡ 0) × (c < count)
unfolding reasons_named
passed gate transmit receive c count initialised k none =
    let checks : List Check = on_bus_checks initialised (ltb c count) k in
    let limits : ℕ = first_reason (limits_on transmit receive) in
    let own = first_reason checks then limits in
    let on_bus = then_first (first_reason checks) limits (then_second gate own none) in
    (then_first gate own none, ltb-true c count (not_false (ltb c count) (check_passed 1 checks refl on_bus)))

pub report_passive-notifications-requires : goal.report_passive-notifications-requires
report_passive-notifications-requires g c =
    let a = c.args in
    let found = behind _ _ c.and.ensures refl (behind _ _ c.and-own.ensures c.judge_on_bus.ensures c.judge_counts.ensures) in
    let none = passed (verdict_reason a.gate) a.transmit a.receive a.controller c.controller_count.result c.initialised.result (view_controller c.controller-k.result) (sym found ∙ ap verdict_reason c.in-Ok.is) in
    (c.requires none.0).2

pub set_controller-requires : goal.set_controller-requires
set_controller-requires g c =
    let a = c.args in
    let found = behind _ _ c.and.ensures refl (behind _ _ c.and-own.ensures c.judge_on_bus.ensures c.judge_counts.ensures) in
    let none = passed (verdict_reason a.gate) a.transmit a.receive a.controller c.controller_count.result c.initialised.result (view_controller c.controller-k.result) (sym found ∙ ap verdict_reason c.in-Ok.is) in
    omega (arith, c.controller_count.ensures, none.1, (c.requires none.0).0)

pub set_errors-requires : goal.set_errors-requires
set_errors-requires g c =
    let a = c.args in
    let found = behind _ _ c.and.ensures refl (behind _ _ c.and-own.ensures c.judge_on_bus.ensures c.judge_counts.ensures) in
    let none = passed (verdict_reason a.gate) a.transmit a.receive a.controller c.controller_count.result c.initialised.result (view_controller c.controller-k.result) (sym found ∙ ap verdict_reason c.in-Ok.is) in
    omega (arith, c.controller_count.ensures, none.1, (c.requires none.0).1, c.set_controller.ensures.places.2)

pub returns-in-Ok-clause-performed : goal.returns-in-Ok-clause-performed
unfolding errors_counted
returns-in-Ok-clause-performed g c ram =
    let a = c.args in
    let core = g.K.CorePlaces.core a.core.now in
    let k = c.controller-k.ensures in
    let e = c.error_place-e.ensures in
    let found = behind _ _ c.and.ensures refl (behind _ _ c.and-own.ensures (c.judge_on_bus.ensures ∙ on_bus_read core a.controller c.initialised.ensures c.controller_count.ensures k) c.judge_counts.ensures) in
    told_performed _ no_report no_answer core ram no_answer _ ram _ (sym (ap verdict_reason c.in-Ok.is) ∙ found) refl refl
    (c.set_errors.ensures.core
    ∙ ap₂ (λ (s : Core) (x : Errors). with_errors s (set s.errors a.controller x))
    (c.set_controller.ensures.core ∙ ap (λ (k : Controller). with_controllers core (set core.controllers a.controller k)) (c.counted_controller.ensures ∙ ap (counted_controller a.transmit) k))
    (c.counted_errors.ensures ∙ ap (counted_errors a.transmit a.receive) e))
    refl (rw (← k, ← e) c.report_passive-notifications.ensures)

pub returns-in-Err-clause-performed : goal.returns-in-Err-clause-performed
unfolding errors_counted
returns-in-Err-clause-performed g c ram =
    let a = c.args in
    let core = g.K.CorePlaces.core a.core.now in
    let found = behind _ _ c.and.ensures refl (behind _ _ c.and-own.ensures (c.judge_on_bus.ensures ∙ on_bus_read core a.controller c.initialised.ensures c.controller_count.ensures c.controller-k.ensures) c.judge_counts.ensures) in
    refused_performed _ no_report no_answer core ram _ (sym (ap verdict_reason c.in-Err.is) ∙ found) (reason_named _) refl (noted_none a.sheet.now)
