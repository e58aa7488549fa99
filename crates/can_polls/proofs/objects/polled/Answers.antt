-- The gate is the rules', what it lets pass has room, and the core's poll is lifted to the state.
use mathlib.Core.Path.{sym, ◌∙◌}
use lib.ListN.{length}
use Rattle.can_state.specs.View.{view}
use Rattle.can_state.proofs.Gates.{full_gate_is, passed, lifted_performed}
use Rattle.can_polls.proofs.Rooms.{room}
use Rattle.can_polls.proofs.objects.polled.Goals as goal

pub poll_objects-reported-requires : goal.poll_objects-reported-requires
poll_objects-reported-requires c =
    let a = c.args in
    let gate = full_gate_is a.state c.valid.ensures (length a.sheet.now) a.ram.now c.full_gate-gate.ensures in
    record { room = λ none. rw (← c.next.view_is) at (room a.state (passed a.state (length a.sheet.now) a.ram.now (sym gate ∙ none))) }

pub returns : goal.returns
returns c =
    let a = c.args in
    let gate = full_gate_is a.state c.valid.ensures (length a.sheet.now) a.ram.now c.full_gate-gate.ensures in
    rw (← c.next.view_is)
    (lifted_performed (view (record { core = c.next.inside.core; settings = c.next.inside.settings })) (rw (rw (← c.next.view_is) at gate) at c.poll_objects-reported.ensures.done))
