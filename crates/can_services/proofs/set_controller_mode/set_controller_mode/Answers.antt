-- The gate is the rules', the gate lets no more controllers pass than there are places, the sheet has room for what is reported, and the core's service is lifted to the state.
use Prim.Native.Nat.{ℕ}
use mathlib.Core.Path.{◌≡◌, sym, ◌∙◌}
use mathlib.Core.Bool.{not}
use mathlib.Core.List.{List, []}
use native.Mathlib.Omega.{arith}
use lib.ListN.{length}
use Rattle.rules.specs.Limits.{sheet_size}
use Rattle.rules.specs.Outcome.{sheet_gate}
use Rattle.rules.specs.Calls.{set_controller_mode}
use Rattle.rules.specs.Can.{can_format}
use Rattle.rules.specs.Chip.{chip}
use Rattle.core_answers.specs.Answer.{verdict_reason}
use Rattle.core_services.proofs.Laws.{gate_room}
use Rattle.can_state.specs.declared.state.State.{State}
use Rattle.can_state.specs.View.{view}
use Rattle.can_state.proofs.Gates.{sheet_gate_is, sheet_passed, lifted_performed}
use Rattle.can_services.proofs.set_controller_mode.set_controller_mode.Goals as goal

pub set_controller_mode-reported-requires : goal.set_controller_mode-reported-requires
set_controller_mode-reported-requires c =
    let state : State = c.args.state in
    let sheet : List ℕ = c.args.sheet.now in
    let gate_is : verdict_reason c.sheet_gate-gate.result ≡ sheet_gate chip can_format (view state) (length sheet) = sheet_gate_is state c.valid.ensures (length sheet) c.sheet_gate-gate.ensures in
    (λ none. rw (← c.next.view_is) at (sheet_passed state (length sheet) (sym gate_is ∙ none)).controllers, gate_room (not c.valid.result) (sheet_size chip) sheet [] (omega arith) c.sheet_gate-gate.ensures)

pub returns : goal.returns
unfolding set_controller_mode
returns c =
    let state : State = c.args.state in
    let sheet : List ℕ = c.args.sheet.now in
    let gate_is : verdict_reason c.sheet_gate-gate.result ≡ sheet_gate chip can_format (view state) (length sheet) = sheet_gate_is state c.valid.ensures (length sheet) c.sheet_gate-gate.ensures in
    rw (← c.next.view_is)
    (lifted_performed (view (record { core = c.next.inside.core; settings = c.next.inside.settings })) (rw (rw (← c.next.view_is) at gate_is) at (c.set_controller_mode-reported.ensures.performed [])))
