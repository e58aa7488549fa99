-- The gate is the rules', what it lets pass has places and room, and the core's event is lifted to the state.
use mathlib.Core.Path.{sym, ◌∙◌}
use native.Mathlib.Omega.{arith}
use lib.ListN.{length}
use Rattle.rules.specs.Calls.{errors_counted}
use Rattle.can_state.specs.View.{view}
use Rattle.can_state.proofs.Gates.{sheet_gate_is, sheet_room, within, lifted_performed}
use Rattle.can_step.proofs.Gates.{left_is}
use Rattle.can_step.proofs.events.counted.Goals as goal

pub errors_counted-requires : goal.errors_counted-requires
errors_counted-requires c =
    let state = c.args.state.now in
    let sheet = length c.args.sheet.now in
    let gate = sheet_gate_is state (sym c.requires) sheet c.sheet_gate-gate.ensures in
    λ none. let room = sheet_room state sheet (sym gate ∙ none) in let few = rw (← c.state.view_is) at (within state c.requires).controllers in (few, few, omega arith)

pub returns : goal.returns
unfolding errors_counted
returns c ram =
    let state = c.args.state.now in
    let gate = sheet_gate_is state (sym c.requires) (length c.args.sheet.now) c.sheet_gate-gate.ensures in
    rw (← c.state.view_is)
    (left_is (lifted_performed (view (record { core = c.state.inside.core; settings = c.state.inside.settings })) (rw (rw (← c.state.view_is) at gate) at (c.errors_counted.ensures.performed ram))))
