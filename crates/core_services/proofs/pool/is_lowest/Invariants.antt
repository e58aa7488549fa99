-- `none` says that no object passed is a member.
use mathlib.Core.Path.{◌≡◌}
use mathlib.Core.Bool.{not}
use Rattle.rules.specs.Repeat.{all_below}
use Rattle.rules.specs.Core.{owner_at, in_pool}
use Rattle.core_services.proofs.pool.is_lowest.Given as goal

abbrev pub invariant-loop-i : goal.invariant-loop-i
invariant-loop-i g l =
    let os = (g.K.CorePlaces.core l.core).owners in
    (l.pool ≡ (owner_at os l.h).pool) × (l.none ≡ all_below l.i (λ j. not (in_pool os (owner_at os l.h).pool j)))
