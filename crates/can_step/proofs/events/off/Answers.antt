-- The gate is the rules', a valid state has no more in use than there are places, and the core's event is lifted to the state.
use mathlib.Core.Path.{sym}
use Rattle.rules.specs.Calls.{bus_off_detected}
use Rattle.can_state.specs.View.{view}
use Rattle.can_state.proofs.Gates.{state_gate_is, within, lifted_performed}
use Rattle.can_step.proofs.Gates.{left_quiet}
use Rattle.can_step.proofs.events.off.Goals as goal

pub bus_off_detected-requires : goal.bus_off_detected-requires
bus_off_detected-requires c = λ none. rw (← c.state.view_is) at (within c.args.state.now c.requires).controllers

pub returns : goal.returns
unfolding bus_off_detected
returns c ram sheet =
    let state = c.args.state.now in
    let gate = state_gate_is state (sym c.requires) c.state_gate-gate.ensures in
    rw (← c.state.view_is)
    (left_quiet (lifted_performed (view (record { core = c.state.inside.core; settings = c.state.inside.settings })) (rw (rw (← c.state.view_is) at gate) at (c.bus_off_detected.ensures.performed ram))) sheet)
