-- The gate's verdict and the service's own are the rules' reason. An accepted request is of a controller in use, and is stored there; a refused
-- one is reported.
use mathlib.Core.Path.{refl, sym, ap, ◌∙◌}
use mathlib.Core.List.{◌++◌}
use native.Mathlib.Omega.{arith}
use lib.ListN.{set}
use lib.Dec.{ltb}
use borrow.Author.Tests.{ltb-true}
use Rattle.rules.specs.Mode.{permitted}
use Rattle.rules.specs.Reason.{first_reason, reasons_named}
use Rattle.rules.specs.Core.{Controller, with_controllers}
use Rattle.rules.specs.Outcome.{no_answer, service_report}
use Rattle.rules.specs.Services.{SET_CONTROLLER_MODE, set_controller_mode, with_request}
use Rattle.laws.proofs.Tests.{not_false}
use Rattle.laws.proofs.Reasons.{then_first, then_second, check_passed}
use Rattle.core_places.specs.View.{view_controller}
use Rattle.core_answers.specs.Answer.{verdict_reason}
use Rattle.core_answers.proofs.Laws.{behind, reason_named, accepted_performed, refused_performed}
use Rattle.core_services.specs.Checks.{in_use_checks, move_checks}
use Rattle.core_services.proofs.Laws.{set_mode_read}
use Rattle.core_services.proofs.set_controller_mode.set_controller_mode.Goals as goal

pub request_mode-requires : goal.request_mode-requires
unfolding reasons_named
request_mode-requires g c =
    let a = c.args in
    let k = view_controller c.controller-k.result in
    let checks = in_use_checks c.initialised.result (ltb a.controller c.controller_count.result) ++ move_checks k a.asked in
    let found = behind _ _ c.and.ensures refl c.judge_set_mode.ensures in
    let none = then_second (verdict_reason a.gate) (first_reason checks) (sym found ∙ ap verdict_reason c.in-Ok.is) in
    not_false (permitted k.mode a.asked) (check_passed 2 checks refl none)

pub set_controller-requires : goal.set_controller-requires
unfolding reasons_named
set_controller-requires g c =
    let a = c.args in
    let used = ltb a.controller c.controller_count.result in
    let checks = in_use_checks c.initialised.result used ++ move_checks (view_controller c.controller-k.result) a.asked in
    let none = sym (behind _ _ c.and.ensures refl c.judge_set_mode.ensures) ∙ ap verdict_reason c.in-Ok.is in
    let below = ltb-true _ _ (not_false used (check_passed 1 checks refl (then_second (verdict_reason a.gate) (first_reason checks) none))) in
    omega (arith, c.controller_count.ensures, below, c.requires.0 (then_first (verdict_reason a.gate) (first_reason checks) none))

pub returns-in-Ok-clause-performed : goal.returns-in-Ok-clause-performed
unfolding set_controller_mode
returns-in-Ok-clause-performed g c ram =
    let a = c.args in
    let core = g.K.CorePlaces.core a.core.now in
    let found = behind _ _ c.and.ensures refl (c.judge_set_mode.ensures ∙ set_mode_read (g.K.CorePlaces.core a.core.now) a.controller a.asked c.initialised.ensures c.controller_count.ensures c.controller-k.ensures) in
    accepted_performed _ (service_report SET_CONTROLLER_MODE) no_answer core ram no_answer _ ram a.sheet.now (sym (ap verdict_reason c.in-Ok.is) ∙ found) refl refl
    (c.set_controller.ensures.core
    ∙ ap (λ (k : Controller). with_controllers core (set core.controllers a.controller k)) (c.request_mode.ensures ∙ ap (with_request a.asked) c.controller-k.ensures))
    refl

pub returns-in-Err-clause-performed : goal.returns-in-Err-clause-performed
unfolding set_controller_mode
returns-in-Err-clause-performed g c ram =
    let a = c.args in
    let found = behind _ _ c.and.ensures refl (c.judge_set_mode.ensures ∙ set_mode_read (g.K.CorePlaces.core a.core.now) a.controller a.asked c.initialised.ensures c.controller_count.ensures c.controller-k.ensures) in
    refused_performed _ (service_report SET_CONTROLLER_MODE) no_answer (g.K.CorePlaces.core a.core.now) ram _ (sym (ap verdict_reason c.in-Err.is) ∙ found) (reason_named _) refl
    c.report-notifications.ensures
