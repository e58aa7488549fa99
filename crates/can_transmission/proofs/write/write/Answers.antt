-- The gate is the rules', what it lets pass has room, and the rest is Write on the state that is lent.
use mathlib.Core.Path.{sym, ◌∙◌}
use native.Mathlib.Omega.{arith}
use lib.ListN.{length}
use Rattle.rules.specs.Limits.{sheet_size}
use Rattle.rules.specs.Calls.{write}
use Rattle.rules.specs.Chip.{chip}
use Rattle.core_services.proofs.Laws.{gate_room}
use Rattle.can_state.proofs.Gates.{full_gate_is, passed}
use Rattle.can_transmission.proofs.write.write.Goals as goal

pub write_lent-reported-requires : goal.write_lent-reported-requires
write_lent-reported-requires c =
    let a = c.args in
    let gate = full_gate_is a.state c.valid.ensures (length a.sheet.now) a.ram.now c.full_gate-gate.ensures in
    record {
      room = (
        gate_room _ (sheet_size chip) a.sheet.now _ (omega arith) c.full_gate-gate.ensures,
        λ none.
            let room = passed a.state (length a.sheet.now) a.ram.now (sym gate ∙ none) in
            record { objects_fit = rw (← c.next.view_is) at room.places.objects; ram_whole = room.ram_whole },
      );
      places = (omega arith, λ none. let room = passed a.state (length a.sheet.now) a.ram.now (sym gate ∙ none) in rw (← c.next.view_is) at room.places.objects);
    }

pub returns : goal.returns
unfolding write
returns c =
    let a = c.args in
    let gate = full_gate_is a.state c.valid.ensures (length a.sheet.now) a.ram.now c.full_gate-gate.ensures in
    rw (← c.next.view_is) (rw (rw (← c.next.view_is) at gate) at c.write_lent-reported.ensures.performed)
