-- `ok` is the test of all objects passed.
use mathlib.Core.Path.{◌≡◌}
use Rattle.core_validity.specs.Pools.{own_pools}
use Rattle.core_validity.proofs.pools.own_pools.Given as goal

abbrev pub invariant-loop-h : goal.invariant-loop-h
invariant-loop-h g l = l.ok ≡ own_pools (g.W.OwnerList.places l.owners) l.h
