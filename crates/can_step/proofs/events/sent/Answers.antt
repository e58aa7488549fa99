-- The gate is the rules', a valid state has no more in use than there are places, and the core's event is lifted to the state.
use mathlib.Core.Path.{sym}
use Rattle.rules.specs.Calls.{tx_complete}
use Rattle.can_state.specs.View.{view}
use Rattle.can_state.proofs.Gates.{state_gate_is, within, lifted_performed}
use Rattle.can_step.proofs.Gates.{left_quiet}
use Rattle.can_step.proofs.events.sent.Goals as goal

pub tx_complete-requires : goal.tx_complete-requires
tx_complete-requires c = λ none. rw (← c.state.view_is) at (within c.args.state.now c.requires).objects

pub returns : goal.returns
unfolding tx_complete
returns c ram sheet =
    let state = c.args.state.now in
    let gate = state_gate_is state (sym c.requires) c.state_gate-gate.ensures in
    rw (← c.state.view_is)
    (left_quiet (lifted_performed (view (record { core = c.state.inside.core; settings = c.state.inside.settings })) (rw (rw (← c.state.view_is) at gate) at (c.tx_complete.ensures.performed ram))) sheet)
