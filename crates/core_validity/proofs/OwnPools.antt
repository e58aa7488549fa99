-- Where each object is its own pool, each is the lowest of its pool, and every pool is valid.
use Prim.Native.Nat.{ℕ, ◌≤◌, ◌<◌}
use native.Mathlib.Omega.{arith}
use mathlib.Core.Path.{◌≡◌, refl}
use mathlib.Core.Bool.{true, false, cond}
use mathlib.Core.Logic.{◌⊎◌, inl, inr, ⊎_elim}
use mathlib.Core.List.{List}
use lib.Dec.{eqb}
use borrow.Author.Tests.{eqb-true, eq-eqb, lt-ltb}
use Rattle.rules.specs.Core.{Owner, owner_at, in_pool, lowest_of, pool_valid}
use Rattle.laws.proofs.Tests.{both, decide}
use Rattle.laws.proofs.Repeat.{all_facts, facts_all}
use Rattle.laws.proofs.Pools.{lowest_found, member_pool, member_sends}
use Rattle.core_validity.specs.Pools.{own_pools, pools_valid}

module _ (os : List Owner) (n : ℕ) (own : own_pools os n ≡ true) where
  own_number : (h : ℕ) → h < n → (owner_at os h).pool ≡ cond (owner_at os h).receiving 0 h
  own_number h used = eqb-true (owner_at os h).pool _ (all_facts n (λ i. eqb (owner_at os i).pool (cond (owner_at os i).receiving 0 i)) own h used)

  pub own_lowest : (h : ℕ) → h < n → (owner_at os h).receiving ≡ false → lowest_of os h ≡ h
  own_lowest h used sends = ⊎_elim (λ (e : lowest_of os h ≡ h). e) lower (lowest_found h (in_pool os (owner_at os h).pool) h)
    where
      lower : (lowest_of os h < h) × (in_pool os (owner_at os h).pool (lowest_of os h) ≡ true) → lowest_of os h ≡ h
      lower f =
          let pool = (owner_at os h).pool in
          let i = lowest_of os h in
          let below : i < h = f.0 in
          let same : (owner_at os i).pool ≡ pool = member_pool os pool i f.1 in
          let other : (owner_at os i).receiving ≡ false = member_sends os pool i f.1 in
          let i_is : (owner_at os i).pool ≡ i = rw other at (own_number i (omega arith)) in
          let h_is : (owner_at os h).pool ≡ h = rw sends at (own_number h used) in
          absurd (omega (arith, same, i_is, h_is))

  pub own_valid : (places : ℕ) → n ≤ places → pools_valid places os n ≡ true
  own_valid places within = facts_all n (pool_valid places os) (λ h used. go h used (decide (owner_at os h).receiving))
    where
      go : (h : ℕ) → h < n → ((owner_at os h).receiving ≡ true) ⊎ ((owner_at os h).receiving ≡ false) → pool_valid places os h ≡ true
      go h used (inl receives) = rw receives (eq-eqb (owner_at os h).pool 0 (rw receives at (own_number h used)))
      go h used (inr sends) =
          let h_is : (owner_at os h).pool ≡ h = rw sends at (own_number h used) in
          rw (own_lowest h used sends, sends)
          (both (lt-ltb (owner_at os h).pool places (omega arith)) (eq-eqb (owner_at os h).controller (owner_at os h).controller refl))
