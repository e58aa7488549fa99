-- The frame is judged by the settings of the object, the core takes the write, and an accepted frame fills the member that takes it.
use Prim.Native.Nat.{ℕ}
use mathlib.Core.Path.{◌≡◌, refl, ap, sym, ◌∙◌}
use native.Mathlib.Omega.{arith}
use Rattle.rules.specs.Reason.{first_reason, ◌then◌}
use Rattle.rules.specs.Core.{Core, free_member}
use Rattle.rules.specs.Configuration.{settings_at}
use Rattle.rules.specs.State.{with_core}
use Rattle.rules.specs.Outcome.{Answer, no_answer, taken_by, service_report}
use Rattle.rules.specs.Services.{WRITE, write_reason, taken}
use Rattle.rules.specs.Can.{Frame, Settings, can_format, write_checks}
use Rattle.laws.proofs.Reasons.{then_first, then_second}
use Rattle.core_answers.specs.Answer.{reason_of, verdict_reason}
use Rattle.core_answers.specs.Reply.{write_answer}
use Rattle.core_answers.proofs.Laws.{reason_named, refused_performed, accepted_performed}
use Rattle.core_services.proofs.Laws.{room_then}
use Rattle.can_state.specs.View.{state_of}
use Rattle.can_layout.proofs.Placed.{laid_whole}
use Rattle.can_transmission.proofs.Writes.{room_for}
use Rattle.can_transmission.proofs.lent.write_lent.Goals as goal

same_object : {a b : ℕ} → ◌≡◌ {A = Answer} (taken_by a) (taken_by b) → a ≡ b
same_object e = cc

pub take_write-reply-requires : goal.take_write-reply-requires
take_write-reply-requires g c = (c.requires.places.0, c.requires.places.1)

pub report-notifications-requires : goal.report-notifications-requires
report-notifications-requires g c =
    room_then (verdict_reason c.args.gate) _ c.requires.room.0 (sym (ap verdict_reason c.in-Err.is) ∙ c.take_write-reply.ensures.taken.reason_is)

pub returns-in-Ok-clause-performed : goal.returns-in-Ok-clause-performed
returns-in-Ok-clause-performed g c =
    let a = c.args in
    let s = state_of (g.K.CorePlaces.core a.core.now) (g.S.SettingsList.places a.settings.now) in
    let gate = verdict_reason a.gate in
    let frame : Frame = record { identifier = a.identifier; sdu = a.sdu.now } in
    let own = settings_at can_format s.settings a.object in
    let judged_so : verdict_reason c.judge_frame-frame.result ≡ first_reason (write_checks own frame) =
    c.judge_frame-frame.ensures ∙ ap (λ (x : Settings). first_reason (write_checks x frame)) c.settings.ensures in
    let wt = c.take_write-reply.ensures.taken in
    let none : verdict_reason c.take_write-reply.result ≡ 0 = ap verdict_reason c.in-Ok.is in
    let found : 0 ≡ (gate then write_reason s.core a.object (first_reason (write_checks own frame))) = sym none ∙ wt.reason_is ∙ rw judged_so in
    let answered : taken_by c.in-Ok.member ≡ taken_by (free_member s.core a.object) = sym (ap write_answer c.in-Ok.is) ∙ wt.answer_is ∙ rw none in
    let member : c.in-Ok.member ≡ free_member s.core a.object = same_object answered in
    let passed = c.requires.room.1 (then_first gate _ (sym found)) in
    let room = room_for s.core a.object own frame a.ram.now (then_second gate _ (sym found)) passed.objects_fit passed.ram_whole in
    accepted_performed _ (service_report WRITE) no_answer s a.ram.now (taken_by (free_member s.core a.object)) (with_core s (taken s.core (free_member s.core a.object))) _ a.sheet.now found refl answered
    (ap (λ (core : Core). with_core s core) (wt.core_is ∙ rw none))
    (rw (← member)
    (laid_whole (settings_at can_format s.settings c.in-Ok.member) c.lay_down.ensures (rw member room) (ap (λ (x : Settings). x.padding) c.settings-padding.ensures)))

pub returns-in-Err-clause-performed : goal.returns-in-Err-clause-performed
returns-in-Err-clause-performed g c =
    let a = c.args in
    let s = state_of (g.K.CorePlaces.core a.core.now) (g.S.SettingsList.places a.settings.now) in
    let frame : Frame = record { identifier = a.identifier; sdu = a.sdu.now } in
    let own = settings_at can_format s.settings a.object in
    let judged_so : verdict_reason c.judge_frame-frame.result ≡ first_reason (write_checks own frame) =
    c.judge_frame-frame.ensures ∙ ap (λ (x : Settings). first_reason (write_checks x frame)) c.settings.ensures in
    let wt = c.take_write-reply.ensures.taken in
    let why = c.in-Err.r in
    let reason : verdict_reason c.take_write-reply.result ≡ reason_of why = ap verdict_reason c.in-Err.is in
    let found : reason_of why ≡ (verdict_reason a.gate then write_reason s.core a.object (first_reason (write_checks own frame))) = sym reason ∙ wt.reason_is ∙ rw judged_so in
    refused_performed _ (service_report WRITE) no_answer s a.ram.now _ found (reason_named why)
    (ap (λ (core : Core). with_core s core) (wt.core_is ∙ rw (reason, reason_named why)))
    c.report-notifications.ensures
