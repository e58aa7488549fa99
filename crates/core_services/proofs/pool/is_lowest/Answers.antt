use Prim.Native.Nat.{ℕ}
use native.Mathlib.Omega.{arith}
use mathlib.Core.Path.{◌≡◌, ap, ◌∙◌}
use mathlib.Core.Bool.{not}
use Rattle.rules.specs.Repeat.{all_below}
use Rattle.rules.specs.Core.{owner_at, in_pool}
use Rattle.laws.proofs.Pools.{lowest_itself}
use Rattle.core_services.proofs.pool.is_lowest.Goals as goal

pub returns : goal.returns
returns g c =
    let a = c.args in
    let os = (g.K.CorePlaces.core a.core.now).owners in
    let members = in_pool os (owner_at os a.h).pool in
    let done : c.loop-i.i ≡ a.h = omega arith in
    c.loop-i.invariant.1 ∙ ap (λ (n : ℕ). all_below n (λ j. not (members j))) done ∙ lowest_itself a.h members
