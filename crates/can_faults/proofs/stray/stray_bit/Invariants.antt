-- The loop's invariant: no bit passed is stray, so that the highest stray one is among those that are left.
use mathlib.Core.Path.{◌≡◌}
use Rattle.rules.specs.Can.{stray_at}
use Rattle.can_faults.specs.Stray.{highest_below, stray_bit}
use Rattle.can_faults.proofs.stray.stray_bit.Given as goal

abbrev pub invariant-loop-k : goal.invariant-loop-k
invariant-loop-k l = stray_bit l.code l.mask ≡ highest_below l.k (stray_at l.code l.mask)
