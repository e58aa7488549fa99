-- What the proof of Write rests on: an accepted frame has room in the member that takes it.
use Prim.Native.Nat.{ℕ, ◌≤◌}
use native.Mathlib.Omega.{arith}
use mathlib.Core.Path.{◌≡◌}
use mathlib.Core.Bool.{true}
use mathlib.Core.List.{List}
use lib.ListN.{length}
use Rattle.rules.specs.Limits.{ram_size}
use Rattle.rules.specs.Core.{Core, free_member}
use Rattle.rules.specs.Can.{Frame, Settings, write_checks}
use Rattle.rules.specs.Reason.{first_reason}
use Rattle.rules.specs.Services.{write_reason}
use Rattle.rules.specs.Chip.{chip}
use Rattle.laws.proofs.Pools.{named, taken_member}
use Rattle.laws.proofs.Acceptance.{write_passed}
use Rattle.can_layout.specs.Object.{has_room}
use Rattle.can_layout.proofs.Lawful.{written_short}
use Rattle.can_layout.proofs.Placed.{object_room}

pub room_for : (core : Core) (h : ℕ) (s : Settings) (frame : Frame) (ram : List ℕ) → write_reason core h (first_reason (write_checks s frame)) ≡ 0 → core.object_count ≤ chip.objects
    → length ram ≡ ram_size chip → has_room (free_member core h) (length ram) (length frame.sdu) ≡ true
room_for core h s frame ram none few whole =
    let passed = write_passed core h (first_reason (write_checks s frame)) none in
    let inside = (taken_member core h (named core h passed.pool_named)).in_use in
    object_room (free_member core h) (length frame.sdu) ram (omega arith) whole (written_short s frame passed.frame_fits)
