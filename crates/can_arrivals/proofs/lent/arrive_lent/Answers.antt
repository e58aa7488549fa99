-- The checks on the controller that was read are the rules' own, and a frame that passes them all is received.
use Prim.Native.Nat.{ℕ}
use mathlib.Core.Path.{◌≡◌, refl, ap, sym, ◌∙◌}
use lib.ListN.{length}
use lib.Dec.{eqb}
use Rattle.rules.specs.Reason.{first_reason, ◌then◌, reasons_named}
use Rattle.rules.specs.Outcome.{no_answer, no_report}
use Rattle.rules.specs.Calls.{arrival_reason}
use Rattle.rules.specs.Can.{Frame, can_format, arrival_checks, is_fd, is_wire_length, wire_length}
use Rattle.rules.specs.Chip.{chip}
use Rattle.laws.proofs.Tests.{not_false}
use Rattle.laws.proofs.Reasons.{then_first, then_second, check_passed, judged_accepts}
use Rattle.core_answers.specs.Answer.{verdict_reason}
use Rattle.core_answers.proofs.Laws.{behind, reason_named, refused_performed, noted_none}
use Rattle.core_events.proofs.Laws.{on_bus_read}
use Rattle.can_layout.proofs.Lawful.{short_enough}
use Rattle.can_state.specs.View.{state_of}
use Rattle.can_arrivals.proofs.lent.arrive_lent.Goals as goal

pub received-requires : goal.received-requires
unfolding reasons_named
received-requires g c =
    let a = c.args in
    let frame : Frame = record { identifier = a.identifier; sdu = a.sdu.now } in
    let n = length frame.sdu in
    let on-bus = verdict_reason c.judge_on_bus-on_bus.result in
    let judged = first_reason (arrival_checks frame) in
    let own : ℕ = on-bus then judged in
    let none = sym (behind _ _ c.and-2.ensures refl (behind _ _ c.and.ensures refl c.judge_frame-frame.ensures)) ∙ ap verdict_reason c.in-Ok.is in
    let passed = then_second on-bus judged (then_second (verdict_reason a.gate) own none) in
    let short = short_enough (is_fd frame.identifier) (eqb (wire_length n) n) n (not_false (is_wire_length frame.identifier n) (check_passed 1 (arrival_checks frame) refl passed)) in
    let passes = then_first (verdict_reason a.gate) own none in
    record { room = (c.requires.room passes, short); places = c.requires.places passes }

pub returns-in-Ok-clause-performed : goal.returns-in-Ok-clause-performed
returns-in-Ok-clause-performed g c =
    let a = c.args in
    let s = state_of (g.K.CorePlaces.core a.core.now) (g.S.SettingsList.places a.settings.now) in
    let frame : Frame = record { identifier = a.identifier; sdu = a.sdu.now } in
    let on_bus = c.judge_on_bus-on_bus.ensures ∙ on_bus_read s.core a.controller c.initialised.ensures c.controller_count.ensures c.controller-k.ensures in
    let found : verdict_reason c.and-2.result ≡ (verdict_reason a.gate then arrival_reason chip can_format s a.controller frame) = behind _ _ c.and-2.ensures refl (behind _ _ c.and.ensures on_bus c.judge_frame-frame.ensures) in
    rw (judged_accepts _ _ _ (sym found ∙ ap verdict_reason c.in-Ok.is)) c.received.ensures.performed

pub returns-in-Err-clause-performed : goal.returns-in-Err-clause-performed
returns-in-Err-clause-performed g c =
    let a = c.args in
    let s = state_of (g.K.CorePlaces.core a.core.now) (g.S.SettingsList.places a.settings.now) in
    let on_bus = c.judge_on_bus-on_bus.ensures ∙ on_bus_read s.core a.controller c.initialised.ensures c.controller_count.ensures c.controller-k.ensures in
    let found = behind _ _ c.and-2.ensures refl (behind _ _ c.and.ensures on_bus c.judge_frame-frame.ensures) in
    refused_performed _ no_report no_answer s a.ram.now _ (sym (ap verdict_reason c.in-Err.is) ∙ found) (reason_named _) refl (noted_none a.sheet.now)
