-- The gate and the service's own verdict are the rules' reason. Where there is none the memory has its size and is cleared whole, and the
-- setup is what the bytes say.
use Prim.Native.Nat.{ℕ}
use mathlib.Core.Path.{◌≡◌, refl, sym, ap, ◌∙◌}
use mathlib.Core.Bool.{Bool, not}
use mathlib.Core.List.{List}
use native.Mathlib.Omega.{arith}
use lib.ListN.{length}
use Rattle.std.proofs.lemmas.Result.{IfOk-at_ok}
use Rattle.rules.specs.Limits.{sheet_size}
use Rattle.rules.specs.Reason.{◌then◌, first_reason}
use Rattle.rules.specs.Configuration.{Configuration, configuration_of}
use Rattle.rules.specs.Outcome.{full_gate}
use Rattle.rules.specs.Calls as rules
use Rattle.rules.specs.Calls.{init, configured_state}
use Rattle.rules.specs.Services.{INIT}
use Rattle.rules.specs.Can.{can_format}
use Rattle.rules.specs.Chip.{chip}
use Rattle.core_answers.specs.Answer.{verdict_reason}
use Rattle.core_answers.proofs.Laws.{behind, second_passed}
use Rattle.core_services.proofs.Laws.{gate_room, room_then}
use Rattle.can_state.specs.declared.state.State.{State}
use Rattle.can_state.specs.View.{view}
use Rattle.can_state.proofs.Gates.{full_gate_is}
use Rattle.can_config.specs.View.{view_setup}
use Rattle.can_config.specs.declared.setup.Setup.{Setup}
use Rattle.can_services.proofs.Laws.{accepted_call, refused_call}
use Rattle.can_services.proofs.init.init.Goals as goal

pub refused-requires : goal.refused-requires
refused-requires c =
    let sheet : List ℕ = c.args.sheet.now in
    room_then (verdict_reason c.full_gate-gate.result) (verdict_reason c.judge_init.result)
    (gate_room (not c.valid.result) (sheet_size chip) sheet _ (omega arith) c.full_gate-gate.ensures)
    (sym (ap verdict_reason c.in-Err.is) ∙ behind _ _ c.and.ensures refl refl)

pub returns-in-Ok : goal.returns-in-Ok
unfolding init
returns-in-Ok c =
    let state : State = c.args.state in
    let sheet : List ℕ = c.args.sheet.now in
    let ram : List ℕ = c.args.ram.now in
    let bytes : List ℕ = c.args.bytes.now in
    let own : ℕ = first_reason (rules.init_checks chip can_format (view state) bytes) in
    let own_is : verdict_reason c.judge_init.result ≡ own = rw (← c.state.view_is, ← c.core.view_is) c.judge_init.ensures.reason in
    let found : verdict_reason c.and.result ≡ (full_gate chip can_format (view state) (length sheet) ram then own) =
    behind _ _ c.and.ensures (full_gate_is state c.valid.ensures (length sheet) ram c.full_gate-gate.ensures) own_is in
    let setup = IfOk-at_ok (λ (s : Setup). view_setup s ≡ configuration_of chip can_format bytes) (second_passed c.full_gate-gate.result c.judge_init.result (sym c.and.ensures ∙ c.in-Ok.is)) c.judge_init.ensures.setup in
    accepted_call INIT state ram sheet own (configured_state chip can_format (configuration_of chip can_format bytes)) (sym (ap verdict_reason c.in-Ok.is) ∙ found)
    (c.configured_state.ensures ∙ ap (λ (cfg : Configuration can_format). configured_state chip can_format cfg) setup) c.clear.ensures

pub returns-in-Err : goal.returns-in-Err
unfolding init
returns-in-Err c =
    let state : State = c.args.state in
    let sheet : List ℕ = c.args.sheet.now in
    let ram : List ℕ = c.args.ram.now in
    let own : ℕ = first_reason (rules.init_checks chip can_format (view state) c.args.bytes.now) in
    let own_is : verdict_reason c.judge_init.result ≡ own = rw (← c.state.view_is, ← c.core.view_is) c.judge_init.ensures.reason in
    let found : verdict_reason c.and.result ≡ (full_gate chip can_format (view state) (length sheet) ram then own) =
    behind _ _ c.and.ensures (full_gate_is state c.valid.ensures (length sheet) ram c.full_gate-gate.ensures) own_is in
    refused_call INIT state ram sheet own _ (sym (ap verdict_reason c.in-Err.is) ∙ found) c.refused.ensures
