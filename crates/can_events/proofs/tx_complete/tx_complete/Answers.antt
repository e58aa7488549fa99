-- The gate is the rules', what it lets pass has no more in use than there are places, and the core's event is lifted to the state.
use mathlib.Core.Path.{◌≡◌, sym, ◌∙◌}
use mathlib.Core.List.{[]}
use Rattle.rules.specs.Outcome.{state_gate}
use Rattle.rules.specs.Calls.{tx_complete}
use Rattle.rules.specs.Can.{can_format}
use Rattle.rules.specs.Chip.{chip}
use Rattle.core_answers.specs.Answer.{verdict_reason}
use Rattle.can_state.specs.View.{view}
use Rattle.can_state.proofs.Gates.{state_gate_is, state_passed, lifted_performed}
use Rattle.can_events.proofs.tx_complete.tx_complete.Goals as goal

pub tx_complete-verdict-requires : goal.tx_complete-verdict-requires
tx_complete-verdict-requires c =
    let state = c.args.state in
    let gate_is = state_gate_is state c.valid.ensures c.state_gate-gate.ensures in
    λ none. rw (← c.next.view_is) at (state_passed state (sym gate_is ∙ none)).objects

pub returns : goal.returns
unfolding tx_complete
returns c =
    let state = c.args.state in
    let gate_is : verdict_reason c.state_gate-gate.result ≡ state_gate chip can_format (view state) = state_gate_is state c.valid.ensures c.state_gate-gate.ensures in
    rw (← c.next.view_is)
    (lifted_performed (view (record { core = c.next.inside.core; settings = c.next.inside.settings })) (rw (rw (← c.next.view_is) at gate_is) at (c.tx_complete-verdict.ensures.performed [])))
