-- The gate and the service's own verdict are the rules' reason. Where there is none the memory has its size and is cleared whole.
use Prim.Native.Nat.{ℕ}
use mathlib.Core.Path.{◌≡◌, refl, sym, ap, ◌∙◌}
use mathlib.Core.Bool.{Bool, not}
use mathlib.Core.List.{List}
use native.Mathlib.Omega.{arith}
use lib.ListN.{length}
use Rattle.rules.specs.Limits.{sheet_size}
use Rattle.rules.specs.Reason.{◌then◌, first_reason}
use Rattle.rules.specs.Outcome.{full_gate}
use Rattle.rules.specs.State.{initial_state}
use Rattle.rules.specs.Calls.{deinit}
use Rattle.rules.specs.Services as rules
use Rattle.rules.specs.Services.{DEINIT}
use Rattle.rules.specs.Can.{can_format}
use Rattle.rules.specs.Chip.{chip}
use Rattle.core_answers.specs.Answer.{verdict_reason}
use Rattle.core_answers.proofs.Laws.{behind}
use Rattle.core_services.specs.Checks.{deinit_checks}
use Rattle.core_services.proofs.Laws.{gate_room, room_then}
use Rattle.can_state.specs.declared.state.State.{State}
use Rattle.can_state.specs.View.{view}
use Rattle.can_state.proofs.Gates.{full_gate_is}
use Rattle.can_services.proofs.Laws.{accepted_call, refused_call}
use Rattle.can_services.proofs.deinit.deinit.Goals as goal

pub refused-requires : goal.refused-requires
refused-requires c =
    let sheet : List ℕ = c.args.sheet.now in
    room_then (verdict_reason c.full_gate-gate.result) (verdict_reason c.judge_deinit.result)
    (gate_room (not c.valid.result) (sheet_size chip) sheet _ (omega arith) c.full_gate-gate.ensures)
    (sym (ap verdict_reason c.in-Err.is) ∙ behind _ _ c.and.ensures refl refl)

pub returns-in-Ok : goal.returns-in-Ok
unfolding deinit
returns-in-Ok c =
    let state : State = c.args.state in
    let sheet : List ℕ = c.args.sheet.now in
    let ram : List ℕ = c.args.ram.now in
    let own : ℕ = first_reason (rules.deinit_checks (view state).core) in
    let started_is : c.some_started-started.result ≡ rules.some_started state.core = rw (← c.state.view_is) c.some_started-started.ensures in
    let judged_so : verdict_reason c.judge_deinit.result ≡ first_reason (deinit_checks state.core.initialised c.some_started-started.result) = rw (← c.state-2.view_is, ← c.state-inside.view_is) c.judge_deinit.ensures in
    let own_is : verdict_reason c.judge_deinit.result ≡ own =
    judged_so ∙ ap (λ (started : Bool). first_reason (deinit_checks state.core.initialised started)) started_is in
    let found : verdict_reason c.and.result ≡ (full_gate chip can_format (view state) (length sheet) ram then own) = let gate = full_gate_is state c.valid.ensures (length sheet) ram c.full_gate-gate.ensures in
    behind _ _ c.and.ensures gate own_is in
    let none = sym (ap verdict_reason c.in-Ok.is) ∙ found in
    accepted_call DEINIT state ram sheet own (initial_state chip can_format) none c.initial_state-rest.ensures c.clear.ensures

pub returns-in-Err : goal.returns-in-Err
unfolding deinit
returns-in-Err c =
    let state : State = c.args.state in
    let sheet : List ℕ = c.args.sheet.now in
    let ram : List ℕ = c.args.ram.now in
    let own : ℕ = first_reason (rules.deinit_checks (view state).core) in
    let started_is : c.some_started-started.result ≡ rules.some_started state.core = rw (← c.state.view_is) c.some_started-started.ensures in
    let judged_so : verdict_reason c.judge_deinit.result ≡ first_reason (deinit_checks state.core.initialised c.some_started-started.result) = rw (← c.state-2.view_is, ← c.state-inside.view_is) c.judge_deinit.ensures in
    let own_is : verdict_reason c.judge_deinit.result ≡ own =
    judged_so ∙ ap (λ (started : Bool). first_reason (deinit_checks state.core.initialised started)) started_is in
    let found : verdict_reason c.and.result ≡ (full_gate chip can_format (view state) (length sheet) ram then own) = let gate = full_gate_is state c.valid.ensures (length sheet) ram c.full_gate-gate.ensures in
    behind _ _ c.and.ensures gate own_is in
    refused_call DEINIT state ram sheet own _ (sym (ap verdict_reason c.in-Err.is) ∙ found) c.refused.ensures
