-- The gate's verdict and the service's own are the rules' reason. An accepted call answers what the controller at its place answers; a
-- refused one is reported.
use mathlib.Core.Path.{refl, sym, ap, ap₂, ◌∙◌}
use Rattle.rules.specs.Outcome.{told, service_report}
use Rattle.rules.specs.Services.{question_service, answer_to, ask_controller}
use Rattle.core_answers.specs.Answer.{verdict_reason}
use Rattle.core_answers.specs.Reply.{question_of}
use Rattle.core_answers.proofs.Laws.{behind, reason_named, accepted_performed, refused_performed}
use Rattle.core_services.proofs.Laws.{in_use_read}
use Rattle.core_services.proofs.ask_controller.ask_controller.Goals as goal

pub returns-in-Ok : goal.returns-in-Ok
unfolding ask_controller
returns-in-Ok g c ram =
    let a = c.args in
    let core = g.K.CorePlaces.core a.core.now in
    let q = question_of a.question in
    let found = behind _ _ c.and.ensures refl (c.judge_in_use.ensures ∙ in_use_read (g.K.CorePlaces.core a.core.now) a.controller c.initialised.ensures c.controller_count.ensures) in
    accepted_performed _ (service_report (question_service q)) (told q 0) core ram _ core ram a.sheet.now (sym (ap verdict_reason c.in-Ok.is) ∙ found) refl
    (ap (told q) (c.answer_to.ensures ∙ ap₂ (answer_to q) c.controller-k.ensures c.error_place-e.ensures)) refl refl

pub returns-in-Err : goal.returns-in-Err
unfolding ask_controller
returns-in-Err g c ram =
    let a = c.args in
    let q = question_of a.question in
    let found = behind _ _ c.and.ensures refl (c.judge_in_use.ensures ∙ in_use_read (g.K.CorePlaces.core a.core.now) a.controller c.initialised.ensures c.controller_count.ensures) in
    refused_performed _ (service_report (question_service q)) (told q 0) (g.K.CorePlaces.core a.core.now) ram _ (sym (ap verdict_reason c.in-Err.is) ∙ found) (reason_named _) refl
    (rw (← c.service_of.ensures) c.report-notifications.ensures)
