-- The gate's verdict and the event's own are the rules' reason. The controller of an accepted event is in use, and is stored there; a refused
-- one leaves everything as it was.
use mathlib.Core.Path.{refl, sym, ap, ◌∙◌}
use mathlib.Core.List.{List, []}
use native.Mathlib.Omega.{arith}
use lib.Dec.{ltb}
use lib.ListN.{set}
use borrow.Author.Tests.{ltb-true}
use Rattle.std.proofs.lemmas.Result.{err_from_is_err_and}
use Rattle.rules.specs.Reason.{Check, first_reason, reasons_named}
use Rattle.rules.specs.Core.{Controller, with_controllers}
use Rattle.rules.specs.Outcome.{no_answer, no_report}
use Rattle.rules.specs.Events.{bus_off_detected, marked_bus_off}
use Rattle.laws.proofs.Tests.{not_false}
use Rattle.laws.proofs.Reasons.{then_first, then_second, check_passed}
use Rattle.core_places.specs.View.{view_controller}
use Rattle.core_answers.specs.Answer.{verdict_reason}
use Rattle.core_answers.proofs.Laws.{behind, reason_named, noted_none, accepted_performed, refused_performed}
use Rattle.core_events.specs.Checks.{on_bus_checks}
use Rattle.core_events.proofs.Laws.{on_bus_read}
use Rattle.core_events.proofs.bus_off_detected.bus_off_detected.Goals as goal

pub set_controller-requires : goal.set_controller-requires
unfolding reasons_named
set_controller-requires g c =
    let a = c.args in
    let checks : List Check = on_bus_checks c.initialised.result (ltb a.controller c.controller_count.result) (view_controller c.controller-k.result) in
    let none = sym (behind _ _ c.and.ensures refl c.judge_on_bus.ensures) ∙ ap verdict_reason c.in_ok-and.was in
    let used = not_false (ltb a.controller c.controller_count.result) (check_passed 1 checks refl (then_second (verdict_reason a.gate) (first_reason checks) none)) in
    omega (arith, c.controller_count.ensures, ltb-true a.controller c.controller_count.result used, c.requires (then_first (verdict_reason a.gate) (first_reason checks) none))

pub returns-clause-performed : goal.returns-clause-performed
unfolding bus_off_detected
returns-clause-performed g c ram =
    let found = behind _ _ c.and.ensures refl (c.judge_on_bus.ensures ∙ on_bus_read (g.K.CorePlaces.core c.args.core.now) c.args.controller c.initialised.ensures c.controller_count.ensures c.controller-k.ensures) in
    accepted_performed _ no_report no_answer (g.K.CorePlaces.core c.args.core.now) ram no_answer _ ram [] (sym (ap verdict_reason c.in_ok-and.was) ∙ found) refl refl
    (c.set_controller.ensures.core
    ∙ ap (λ (k : Controller). with_controllers (g.K.CorePlaces.core c.args.core.now) (set (g.K.CorePlaces.core c.args.core.now).controllers c.args.controller k)) (c.marked_bus_off.ensures ∙ ap marked_bus_off c.controller-k.ensures))
    refl

pub returns-in_err-and-clause-performed : goal.returns-in_err-and-clause-performed
unfolding bus_off_detected
returns-in_err-and-clause-performed g c ram =
    let found = behind _ _ c.and.ensures refl (c.judge_on_bus.ensures ∙ on_bus_read (g.K.CorePlaces.core c.args.core.now) c.args.controller c.initialised.ensures c.controller_count.ensures c.controller-k.ensures) in
    let p = err_from_is_err_and c.from_residual.result c.from_residual.ensures.1 in
    rw (p.1, p.2) (refused_performed _ no_report no_answer (g.K.CorePlaces.core c.args.core.now) ram _ (sym (ap verdict_reason c.in_err-and.was) ∙ found) (reason_named _)
    refl (noted_none []))
