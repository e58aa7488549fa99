-- The gate is the rules', what it lets pass has room, and the rest is Arrived on the state that is lent.
use mathlib.Core.Path.{sym, ◌∙◌}
use native.Mathlib.Omega.{arith}
use lib.ListN.{length}
use Rattle.rules.specs.Calls.{frame_arrived}
use Rattle.can_state.proofs.Gates.{full_gate_is, passed}
use Rattle.can_step.proofs.Gates.{left_is}
use Rattle.can_step.proofs.frames.arrive.Goals as goal

pub arrive_lent-requires : goal.arrive_lent-requires
arrive_lent-requires c =
    let a = c.args in
    let gate = full_gate_is a.state.now (sym c.requires) (length a.sheet.now) a.ram.now c.full_gate-gate.ensures in
    record {
      room = λ none.
          let room = passed a.state.now (length a.sheet.now) a.ram.now (sym gate ∙ none) in
          record { objects_fit = rw (← c.state.view_is) at room.places.objects; ram_whole = room.ram_whole; sheet_fits = let long = room.sheet_holds in omega arith };
      places = λ none.
          let room = passed a.state.now (length a.sheet.now) a.ram.now (sym gate ∙ none) in
          let fit = rw (← c.state.view_is) at room.places.objects in
          (fit, fit);
    }

pub returns : goal.returns
unfolding frame_arrived
returns c =
    let a = c.args in
    let gate = full_gate_is a.state.now (sym c.requires) (length a.sheet.now) a.ram.now c.full_gate-gate.ensures in
    rw (← c.state.view_is) (left_is (rw (rw (← c.state.view_is) at gate) at c.arrive_lent.ensures.performed))
