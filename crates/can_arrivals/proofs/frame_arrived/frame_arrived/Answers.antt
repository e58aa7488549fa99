-- The gate is the rules', what it lets pass has room, and the rest is Arrived over the state.
use mathlib.Core.Path.{sym, ◌∙◌}
use native.Mathlib.Omega.{arith}
use lib.ListN.{length}
use Rattle.rules.specs.Calls.{frame_arrived}
use Rattle.can_state.proofs.Gates.{full_gate_is, passed}
use Rattle.can_arrivals.proofs.frame_arrived.frame_arrived.Goals as goal

pub arrive_lent-reported-requires : goal.arrive_lent-reported-requires
arrive_lent-reported-requires c =
    let a = c.args in
    let gate = full_gate_is a.state c.valid.ensures (length a.sheet.now) a.ram.now c.full_gate-gate.ensures in
    record {
      room = λ none.
          let room = passed a.state (length a.sheet.now) a.ram.now (sym gate ∙ none) in
          record { objects_fit = rw (← c.next.view_is) at room.places.objects; ram_whole = room.ram_whole; sheet_fits = let long = room.sheet_holds in omega arith };
      places = λ none.
          let room = passed a.state (length a.sheet.now) a.ram.now (sym gate ∙ none) in
          let fit = rw (← c.next.view_is) at room.places.objects in
          (fit, fit);
    }

pub returns : goal.returns
unfolding frame_arrived
returns c =
    let a = c.args in
    let gate = full_gate_is a.state c.valid.ensures (length a.sheet.now) a.ram.now c.full_gate-gate.ensures in
    rw (← c.next.view_is) (rw (rw (← c.next.view_is) at gate) at c.arrive_lent-reported.ensures.performed)
