-- The gate is the rules', what it lets pass has no more in use than there are places, and the core's event is lifted to the state.
use mathlib.Core.Path.{◌≡◌, sym, ◌∙◌}
use mathlib.Core.List.{[]}
use Rattle.rules.specs.Outcome.{state_gate}
use Rattle.rules.specs.Calls.{bus_off_detected}
use Rattle.rules.specs.Can.{can_format}
use Rattle.rules.specs.Chip.{chip}
use Rattle.core_answers.specs.Answer.{verdict_reason}
use Rattle.can_state.specs.View.{view}
use Rattle.can_state.proofs.Gates.{state_gate_is, state_passed, lifted_performed}
use Rattle.can_events.proofs.bus_off_detected.bus_off_detected.Goals as goal

pub bus_off_detected-verdict-requires : goal.bus_off_detected-verdict-requires
bus_off_detected-verdict-requires c =
    let state = c.args.state in
    let gate_is = state_gate_is state c.valid.ensures c.state_gate-gate.ensures in
    λ none. rw (← c.next.view_is) at (state_passed state (sym gate_is ∙ none)).controllers

pub returns : goal.returns
unfolding bus_off_detected
returns c =
    let state = c.args.state in
    let gate_is : verdict_reason c.state_gate-gate.result ≡ state_gate chip can_format (view state) = state_gate_is state c.valid.ensures c.state_gate-gate.ensures in
    rw (← c.next.view_is)
    (lifted_performed (view (record { core = c.next.inside.core; settings = c.next.inside.settings })) (rw (rw (← c.next.view_is) at gate_is) at (c.bus_off_detected-verdict.ensures.performed [])))
