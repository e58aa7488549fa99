-- The gate is the rules', what it lets pass has room, and the core's poll is lifted to the state.
use mathlib.Core.Path.{sym, ◌∙◌}
use lib.ListN.{length}
use Rattle.can_state.specs.View.{view}
use Rattle.can_state.proofs.Gates.{full_gate_is, passed, lifted_performed}
use Rattle.can_polls.proofs.Rooms.{room}
use Rattle.can_step.proofs.Gates.{left_is}
use Rattle.can_step.proofs.polls.objects.Goals as goal

pub poll_objects-requires : goal.poll_objects-requires
poll_objects-requires c =
    let a = c.args in
    let gate = full_gate_is a.state.now (sym c.requires) (length a.sheet.now) a.ram.now c.full_gate-gate.ensures in
    record { room = λ none. rw (← c.state.view_is) at (room a.state.now (passed a.state.now (length a.sheet.now) a.ram.now (sym gate ∙ none))) }

pub returns : goal.returns
returns c =
    let a = c.args in
    let gate = full_gate_is a.state.now (sym c.requires) (length a.sheet.now) a.ram.now c.full_gate-gate.ensures in
    rw (← c.state.view_is)
    (left_is (lifted_performed (view (record { core = c.state.inside.core; settings = c.state.inside.settings })) (rw (rw (← c.state.view_is) at gate) at c.poll_objects.ensures.done)))
