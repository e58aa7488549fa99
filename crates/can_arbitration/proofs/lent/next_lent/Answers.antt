-- The gate's verdict and the controller's are the rules' reason. Once it is none, the mark decides whether the choice is asked.
use Rattle.std.proofs.lemmas.Result.{err_from_is_err_and}
use mathlib.Core.Path.{◌≡◌, refl, sym, ap, ◌∙◌}
use mathlib.Core.List.{[]}
use native.Mathlib.Omega.{arith}
use lib.Dec.{ltb}
use Rattle.rules.specs.Reason.{first_reason}
use Rattle.rules.specs.Core.{Controller, controller_at}
use Rattle.rules.specs.Outcome.{sends_next, no_answer, no_report}
use Rattle.rules.specs.Events.{next_object, next_to_send}
use Rattle.laws.proofs.Reasons.{then_first}
use Rattle.core_places.specs.View.{view_controller}
use Rattle.core_answers.specs.Answer.{verdict_reason}
use Rattle.core_answers.proofs.Laws.{behind, reason_named, noted_none, accepted_performed, refused_performed}
use Rattle.core_services.specs.Checks.{in_use_checks}
use Rattle.can_arbitration.proofs.lent.next_lent.Goals as goal

pub choose-requires : goal.choose-requires
choose-requires g c =
    let a = c.args in
    let core = g.K.CorePlaces.core a.core.now in
    let judged : verdict_reason c.judge_in_use.result ≡ first_reason (in_use_checks core.initialised (ltb c.args.controller core.controller_count)) = rw (← c.initialised.ensures, ← c.controller_count.ensures) c.judge_in_use.ensures in
    let found = behind _ _ c.and.ensures refl judged in
    let passed = (then_first (verdict_reason a.gate) (first_reason (in_use_checks core.initialised (ltb a.controller core.controller_count))) (sym found ∙ ap verdict_reason c.in_ok-and.was)) in
    let room = c.requires.room passed in
    let few = room.objects_fit in
    let whole = room.ram_whole in
    (omega arith, c.requires.readable passed, omega arith)

pub returns-then-controller : goal.returns-then-controller
unfolding next_to_send next_object
returns-then-controller g c =
    let core = g.K.CorePlaces.core c.args.core.now in
    let judged : verdict_reason c.judge_in_use.result ≡ first_reason (in_use_checks core.initialised (ltb c.args.controller core.controller_count)) = rw (← c.initialised.ensures, ← c.controller_count.ensures) c.judge_in_use.ensures in
    let found = behind _ _ c.and.ensures refl judged in
    let at = c.controller.ensures in
    let marked = ap (λ (k : Controller). k.bus_off) (sym at) ∙ c.if-controller.true in
    accepted_performed _ no_report no_answer core _ _ core _ [] (sym (ap verdict_reason c.in_ok-and.was) ∙ found) refl (rw marked) refl refl

pub returns-else-controller : goal.returns-else-controller
unfolding next_to_send next_object
returns-else-controller g c =
    let core = g.K.CorePlaces.core c.args.core.now in
    let judged : verdict_reason c.judge_in_use.result ≡ first_reason (in_use_checks core.initialised (ltb c.args.controller core.controller_count)) = rw (← c.initialised.ensures, ← c.controller_count.ensures) c.judge_in_use.ensures in
    let found = behind _ _ c.and.ensures refl judged in
    let at = c.controller.ensures in
    let marked = ap (λ (k : Controller). k.bus_off) (sym at) ∙ c.if-controller.false in
    accepted_performed _ no_report no_answer core _ _ core _ [] (c.told.ensures.reason_is ∙ sym (ap verdict_reason c.in_ok-and.was) ∙ found) c.told.ensures.reason_is
    (c.told.ensures.answer_is ∙ rw marked (ap sends_next c.choose.ensures)) refl refl

pub returns-in_err-and : goal.returns-in_err-and
unfolding next_to_send
returns-in_err-and g c =
    let core = g.K.CorePlaces.core c.args.core.now in
    let judged : verdict_reason c.judge_in_use.result ≡ first_reason (in_use_checks core.initialised (ltb c.args.controller core.controller_count)) = rw (← c.initialised.ensures, ← c.controller_count.ensures) c.judge_in_use.ensures in
    let found = behind _ _ c.and.ensures refl judged in
    let p = err_from_is_err_and c.from_residual.result c.from_residual.ensures.1 in
    rw (p.1, p.2) (refused_performed _ no_report no_answer core _ _ (sym (ap verdict_reason c.in_err-and.was) ∙ found) (reason_named _) refl (noted_none []))
