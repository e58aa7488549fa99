-- `speed_setup::chips::full` meets its contract: it is safe and ends.
use Prim.Native.Nat.{◌≤◌, ◌-◌}
use mathlib.Core.Path.{◌≡◌}
use lib.ListN.{length}
use Rattle.rules.specs.Chip.{chip}
use Rattle.speed_setup.proofs.chips.full.Given as goal

abbrev pub invariant-loop-h : goal.invariant-loop-h
invariant-loop-h l = (l.h ≤ chip.objects) × (length l.bytes ≡ length l.initial.bytes)

abbrev pub decreases-loop-h : goal.decreases-loop-h
decreases-loop-h l = chip.objects - l.h
