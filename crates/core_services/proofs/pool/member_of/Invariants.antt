-- The lowest free member is the lowest of those not yet passed, or else the one found.
use mathlib.Core.Path.{◌≡◌}
use Rattle.rules.specs.Repeat.{lowest_or}
use Rattle.core_services.specs.Pool.{free_of_pool}
use Rattle.core_services.proofs.pool.member_of.Given as goal

abbrev pub invariant-loop-i : goal.invariant-loop-i
invariant-loop-i g l =
    let core = g.K.CorePlaces.core l.core in
    lowest_or l.i (free_of_pool core l.pool) l.member ≡ lowest_or core.object_count (free_of_pool core l.pool) l.h
