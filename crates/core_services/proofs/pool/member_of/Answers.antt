use Prim.Native.Nat.{suc, ◌-◌}
use native.Mathlib.Omega.{arith}
use mathlib.Core.Path.{◌≡◌}
use mathlib.Core.Bool.{true, false, cond}
use Rattle.rules.specs.Repeat.{lowest_or}
use Rattle.core_services.specs.Pool.{free_of_pool}
use Rattle.core_services.proofs.pool.member_of.Goals as goal

pub loop-i-preserved-then-o-pool : goal.loop-i-preserved-then-o-pool
unfolding lowest_or
loop-i-preserved-then-o-pool g c =
    let at = c.loop-i in
    let core = g.K.CorePlaces.core c.args.core.now in
    let i = at.i - 1 in
    let p = free_of_pool core c.args.pool in
    let next : at.i ≡ suc i = omega arith in
    let before : lowest_or i p (cond (p i) i at.member) ≡ lowest_or core.object_count p c.args.h = rw next at at.invariant in
    let free : p i ≡ true = rw (← c.read_owner-o.ensures, ← c.read_mailbox.ensures) c.if-o-pool.true in
    rw free at before

pub loop-i-preserved : goal.loop-i-preserved
unfolding lowest_or
loop-i-preserved g c =
    let at = c.loop-i in
    let core = g.K.CorePlaces.core c.args.core.now in
    let i = at.i - 1 in
    let p = free_of_pool core c.args.pool in
    let next : at.i ≡ suc i = omega arith in
    let before : lowest_or i p (cond (p i) i at.member) ≡ lowest_or core.object_count p c.args.h = rw next at at.invariant in
    let other : p i ≡ false = rw (← c.read_owner-o.ensures, ← c.read_mailbox.ensures) c.if-o-pool.false in
    rw other at before

pub returns : goal.returns
unfolding lowest_or
returns g c = let done : c.loop-i.i ≡ 0 = omega arith in rw done at c.loop-i.invariant
