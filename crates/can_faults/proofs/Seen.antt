-- The rules of a pool, beside the lowest object that a table gives.
use Prim.Native.Nat.{ℕ, ◌<◌, ◌≤◌, ◌^◌}
use native.Mathlib.Omega.{arith}
use mathlib.Core.Path.{◌≡◌, ap, ◌∙◌}
use mathlib.Core.Bool.{Bool, true, false, cond}
use mathlib.Core.Logic.{◌⊎◌, inl, inr}
use mathlib.Core.List.{List}
use lib.ListN.{length}
use Rattle.std.specs.Prelude.{Ok, Err}
use Rattle.rules.specs.Core.{owner_at, lowest_of}
use Rattle.rules.specs.Configuration.{Configuration}
use Rattle.rules.specs.Can.{can_format}
use Rattle.laws.proofs.Tests.{decide}
use Rattle.core_validity.specs.Pools.{Tabled, lowest_seen}
use Rattle.core_validity.proofs.LowestTable.{seen_lowest}
use Rattle.can_faults.specs.declared.fault.PoolRule.{PoolRule}
use Rattle.can_faults.specs.declared.fault.PoolRule.TheVariants as pools
use Rattle.can_faults.specs.declared.fault.Fault.TheVariants as faults
use Rattle.can_faults.specs.Fault.{Kept, first_broken, pool_rules, pool_rule, as_fault, pool_fault}

-- one for each number that a byte can say
abbrev pub numbers : ℕ
numbers = 2 ^ 8

-- the rule that a sending object breaks, by what is the same
abbrev pub by_tests : Bool → Bool → Bool → Kept PoolRule
by_tests owned payload padding = cond owned (cond payload (cond padding (Ok tt) (Err pools.Padding)) (Err pools.Payload)) (Err pools.Controller)

module _ (c : Configuration can_format) (h : ℕ) where
  -- whom object h is compared with matters only where it sends
  fault_beside : (lowest : ℕ) → ((owner_at c.owners h).receiving ≡ false → lowest ≡ lowest_of c.owners h)
      → as_fault (λ r. faults.Pool r h lowest) (pool_rule c h lowest) ≡ pool_fault c h
  unfolding first_broken pool_rules
  fault_beside lowest is = go (decide (owner_at c.owners h).receiving)
    where
      go : ((owner_at c.owners h).receiving ≡ true) ⊎ ((owner_at c.owners h).receiving ≡ false)
          → as_fault (λ r. faults.Pool r h lowest) (pool_rule c h lowest) ≡ pool_fault c h
      go (inl receives) = rw receives
      go (inr sends) = rw (is sends)

  -- its fault, by the lowest object that a table of the objects before it gives; its pool is a byte
  pub fault_met : (table : List ℕ) → h ≤ numbers → length table ≡ numbers → Tabled c.owners numbers h table → (owner_at c.owners h).pool < numbers
      → {lowest : ℕ} {rule : Kept PoolRule} → lowest ≡ lowest_seen c.owners table h → rule ≡ pool_rule c h lowest
      → as_fault (λ r. faults.Pool r h lowest) rule ≡ pool_fault c h
  fault_met table past long tabled byte {lowest} found judged =
      ap (as_fault (λ r. faults.Pool r h lowest)) judged
      ∙ fault_beside lowest (λ sends. found ∙ seen_lowest c.owners numbers h table tabled past sends (omega (arith, byte, long)))
