-- The lowest member of each pool, in a table that is filled object by object in rising order.
use Prim.Native.Nat.{ℕ, suc, ◌≤◌, ◌<◌, min}
use native.Mathlib.Omega.{arith}
use native.Mathlib.Decide.{ℕ_discrete}
use mathlib.Core.Path.{◌≡◌, refl, sym, ◌∙◌}
use mathlib.Core.Bool.{Bool, true, false, not, and-false}
use mathlib.Core.Logic.{◌⊎◌, inl, inr, ⊎_elim}
use mathlib.Core.List.{List}
use lib.ListN.{length, get_or, set, length-set, replicate, length-replicate, get_or-replicate}
use lib.Seq.{get_or-set_same, get_or-set_other}
use lib.Dec.{ltb}
use borrow.Author.Tests.{eq-eqb, ne_eqb, lt-ltb, ltb-true, ltb-false}
use Rattle.rules.specs.Repeat.{lowest_or}
use Rattle.rules.specs.Core.{Owner, owner_at, in_pool, lowest_of, pool_valid}
use Rattle.laws.proofs.Tests.{left, right, decide, not_true}
use Rattle.laws.proofs.Pools.{lowest_found, lowest_hit}
use Rattle.core_validity.specs.Pools.{has_pool, lowest_seen, table_with, Tabled, pool_beside}

-- The lowest number below h of which p holds, or else h: which number stands for none does not matter, if it is not lower than h.
lowest_next : (h : ℕ) (p : ℕ → Bool) (none : ℕ) → h ≤ none → min (lowest_or h p none) h ≡ lowest_or h p h
lowest_next h p none past = ⊎_elim nobody somebody (lowest_found h p none)
  where
    nobody : lowest_or h p none ≡ none → min (lowest_or h p none) h ≡ lowest_or h p h
    nobody e = ⊎_elim (λ (n : lowest_or h p h ≡ h). rw (e, n) (let least : min none h ≡ h = omega arith in least)) clash (lowest_found h p h)
      where
        clash : (lowest_or h p h < h) × (p (lowest_or h p h) ≡ true) → min (lowest_or h p none) h ≡ lowest_or h p h
        clash f =
            let below : lowest_or h p h < h = f.0 in
            let same = lowest_hit h p none (lowest_or h p h) below f.1 ∙ sym (lowest_hit h p h (lowest_or h p h) below f.1) in
            absurd (omega (arith, same, e))

    somebody : (lowest_or h p none < h) × (p (lowest_or h p none) ≡ true) → min (lowest_or h p none) h ≡ lowest_or h p h
    somebody f =
        let below : lowest_or h p none < h = f.0 in
        let same = lowest_hit h p none (lowest_or h p none) below f.1 ∙ sym (lowest_hit h p h (lowest_or h p none) below f.1) in
        let least : min (lowest_or h p none) h ≡ lowest_or h p none = omega arith in
        least ∙ same

module _ (os : List Owner) (none : ℕ) where
  -- a table in which every pool has none
  pub table_fresh : (places : ℕ) → Tabled os none 0 (replicate places none)
  unfolding lowest_or
  table_fresh places = record { lowest = λ q l. get_or-replicate places q none 0 (rw (length-replicate places none) at l) }

  module _ (h : ℕ) (table : List ℕ) (tabled : Tabled os none h table) (past : h ≤ none) where
    abbrev own : ℕ
    own = (owner_at os h).pool

    -- the lower of the object and what stands in the table for its pool
    lower : own < length table → min (get_or table own 0) h ≡ lowest_or h (in_pool os own) h
    lower inside = rw (tabled.lowest own inside) (lowest_next h (in_pool os own) none past)

    -- the table for one object more
    pub table_more : Tabled os none (suc h) (table_with os table h)
    unfolding lowest_or
    table_more = go (decide (has_pool os table h))
      where
        same : (q : ℕ) → q < length table → in_pool os q h ≡ false → get_or table q 0 ≡ lowest_or (suc h) (in_pool os q) none
        same q l out = rw out (tabled.lowest q l)

        at : (owner_at os h).receiving ≡ false → own < length table → (q : ℕ) → q < length table → Dec (own ≡ q)
            → get_or (set table own (min (get_or table own 0) h)) q 0 ≡ lowest_or (suc h) (in_pool os q) none
        at sends inside q l (yes e) =
            rw (← e, get_or-set_same table own (min (get_or table own 0) h) 0 inside, lower inside, sends, eq-eqb own own refl)
        at sends inside q l (no other) =
            get_or-set_other table own q (min (get_or table own 0) h) 0 (λ x. other (sym x))
            ∙ same q l (rw (ne_eqb own q other) (and-false (not (owner_at os h).receiving)))

        go : (has_pool os table h ≡ true) ⊎ (has_pool os table h ≡ false) → Tabled os none (suc h) (table_with os table h)
        go (inl t) =
            let sends = not_true (owner_at os h).receiving (left (not (owner_at os h).receiving) (ltb own (length table)) t) in
            let inside = ltb-true own (length table) (right (not (owner_at os h).receiving) (ltb own (length table)) t) in
            rw t (record { lowest = λ q l. at sends inside q (rw (length-set table own (min (get_or table own 0) h)) at l) (ℕ_discrete own q) })
        go (inr t) = rw t (record { lowest = λ q l. same q l (out q l (decide (owner_at os h).receiving)) })
          where
            out : (q : ℕ) → q < length table → ((owner_at os h).receiving ≡ true) ⊎ ((owner_at os h).receiving ≡ false) → in_pool os q h ≡ false
            out q l (inl receives) = rw receives
            out q l (inr sends) =
                let beyond = ltb-false own (length table) (rw sends at t) in
                rw (ne_eqb own q (λ e. omega arith)) (and-false (not (owner_at os h).receiving))

    -- what such an object finds is the lowest object of its pool
    pub seen_lowest : (owner_at os h).receiving ≡ false → own < length table → lowest_seen os table h ≡ lowest_of os h
    seen_lowest sends inside = rw (sends, lt-ltb own (length table) inside) (lower inside)

    -- the test beside it is the rules' test
    pub beside_valid : (places : ℕ) → length table ≡ places → pool_beside places os h (lowest_seen os table h) ≡ pool_valid places os h
    beside_valid places fits = go (decide (owner_at os h).receiving) (decide (ltb own places))
      where
        go : ((owner_at os h).receiving ≡ true) ⊎ ((owner_at os h).receiving ≡ false) → (ltb own places ≡ true) ⊎ (ltb own places ≡ false)
            → pool_beside places os h (lowest_seen os table h) ≡ pool_valid places os h
        go (inl receives) t = rw receives
        go (inr sends) (inr t) = rw (sends, t)
        go (inr sends) (inl t) =
            let inside = ltb-true own places t in
            rw (seen_lowest sends (omega (arith, fits, inside)), sends, t)

-- It is no higher than the object, and the table keeps its places.
pub seen_within : (os : List Owner) (table : List ℕ) (h : ℕ) → lowest_seen os table h ≤ h
seen_within os table h = go (decide (has_pool os table h))
  where
    go : (has_pool os table h ≡ true) ⊎ (has_pool os table h ≡ false) → lowest_seen os table h ≤ h
    go (inl t) = rw t (let low : min (get_or table (owner_at os h).pool 0) h ≤ h = omega arith in low)
    go (inr t) = rw t (omega arith)

pub table_places : (os : List Owner) (table : List ℕ) (h : ℕ) → length (table_with os table h) ≡ length table
table_places os table h = go (decide (has_pool os table h))
  where
    go : (has_pool os table h ≡ true) ⊎ (has_pool os table h ≡ false) → length (table_with os table h) ≡ length table
    go (inl t) = rw t (length-set table (owner_at os h).pool (min (get_or table (owner_at os h).pool 0) h))
    go (inr t) = rw t
