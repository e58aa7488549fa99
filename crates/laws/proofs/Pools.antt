-- Pools: the lowest member, the lowest free member, and what the members of a pool of a valid state share.
use Prim.Native.Nat.{ℕ, zero, suc, ◌≤◌, ◌<◌}
use mathlib.Core.Path.{◌≡◌, refl, sym, ◌∙◌}
use mathlib.Core.Bool.{Bool, true, false, not, cond, ◌&&◌}
use mathlib.Core.List.{List}
use mathlib.Core.Logic.{◌⊎◌, inl, inr, ⊎_elim}
use native.Mathlib.Omega.{arith}
use native.Mathlib.Nat.{eq-or-lt_of_le}
use lib.Dec.{eqb, ltb}
use borrow.Author.Tests.{eqb-true, eq-eqb, ltb-true, ltb-false}
use Rattle.rules.specs.Format.{Format}
use Rattle.rules.specs.Repeat.{all_below, lowest_or}
use Rattle.rules.specs.Core.{Owner, Core, owner_at, in_pool, lowest_of, names_pool, free_in_pool, free_member, pool_valid}
use Rattle.rules.specs.Configuration.{settings_at, settings_agreed}
use Rattle.laws.proofs.Tests.{both, left, right, clash, decide, not_true, same_truth}
use Rattle.laws.proofs.Repeat.{all_facts, facts_all}

-- The lowest number

-- it is the one given for none, or below n and p holds of it
pub lowest_found : (n : ℕ) (p : ℕ → Bool) (d : ℕ) → (lowest_or n p d ≡ d) ⊎ ((lowest_or n p d < n) × (p (lowest_or n p d) ≡ true))
unfolding lowest_or
lowest_found zero p d = inl refl
lowest_found (suc n) p d = found (lowest_or n p (cond (p n) n d)) (decide (p n)) (lowest_found n p (cond (p n) n d))
  where
    found : (low : ℕ) → (p n ≡ true) ⊎ (p n ≡ false) → (low ≡ cond (p n) n d) ⊎ ((low < n) × (p low ≡ true)) → (low ≡ d) ⊎ ((low < suc n) × (p low ≡ true))
    found low t (inr f) = let l : low < n = f.0 in inr (omega arith, f.1)
    found low (inl t) (inl e) = let same : low ≡ n = rw t at e in inr (omega arith, rw same t)
    found low (inr t) (inl e) = inl (rw t at e)

-- where p holds of h, what lies above h does not matter
pub lowest_hit : (n : ℕ) (p : ℕ → Bool) (d h : ℕ) → h < n → p h ≡ true → lowest_or n p d ≡ lowest_or h p h
unfolding lowest_or
lowest_hit zero p d h l t = absurd (omega arith)
lowest_hit (suc n) p d h l t =
    ⊎_elim (λ (e : h ≡ n). rw (← e, t)) (λ (lt : h < n). lowest_hit n p (cond (p n) n d) h lt t) (eq-or-lt_of_le (let le : h ≤ n = omega arith in le))

-- p holds of nothing below it
pub lowest_least : (n : ℕ) (p : ℕ → Bool) (d i : ℕ) → i < n → i < lowest_or n p d → p i ≡ false
unfolding lowest_or
lowest_least zero p d i l below = absurd (omega arith)
lowest_least (suc n) p d i l below = ⊎_elim last (λ (lt : i < n). lowest_least n p (cond (p n) n d) i lt below) (eq-or-lt_of_le (let le : i ≤ n = omega arith in le))
  where
    last : i ≡ n → p i ≡ false
    last e = go (decide (p n))
      where
        go : (p n ≡ true) ⊎ (p n ≡ false) → p i ≡ false
        go (inr t) = rw e t
        go (inl t) =
            let over : n < lowest_or n p n = rw e at (rw t at below) in
            absurd (⊎_elim (λ (same : lowest_or n p n ≡ n). omega arith) (λ (f : (lowest_or n p n < n) × (p (lowest_or n p n) ≡ true)). let l' : lowest_or n p n < n = f.0 in omega arith) (lowest_found n p n))

-- where p holds of a number below n, it holds of the lowest
pub lowest_holds : (n : ℕ) (p : ℕ → Bool) (d h : ℕ) → h < n → p h ≡ true → p (lowest_or n p d) ≡ true
lowest_holds n p d h l t = rw (lowest_hit n p d h l t) (⊎_elim (λ (e : lowest_or h p h ≡ h). rw e t) (λ (f : (lowest_or h p h < h) × (p (lowest_or h p h) ≡ true)). f.1) (lowest_found h p h))

-- h is the lowest where p holds of nothing below it
pub lowest_itself : (h : ℕ) (p : ℕ → Bool) → all_below h (λ i. not (p i)) ≡ eqb (lowest_or h p h) h
lowest_itself h p = same_truth (all_below h (λ i. not (p i))) (eqb (lowest_or h p h) h) only every
  where
    only : all_below h (λ i. not (p i)) ≡ true → eqb (lowest_or h p h) h ≡ true
    only none = ⊎_elim (λ (e : lowest_or h p h ≡ h). eq-eqb _ _ e)
        (λ (f : (lowest_or h p h < h) × (p (lowest_or h p h) ≡ true)). clash f.1 (not_true (p (lowest_or h p h)) (all_facts h (λ i. not (p i)) none (lowest_or h p h) f.0)))
        (lowest_found h p h)

    every : eqb (lowest_or h p h) h ≡ true → all_below h (λ i. not (p i)) ≡ true
    every e = let low = eqb-true (lowest_or h p h) h e in facts_all h (λ i. not (p i)) (λ i l. rw (lowest_least h p h i l (rw low l)))

-- tests that agree below n
pub lowest_ext : (n : ℕ) (p q : ℕ → Bool) (d : ℕ) → ((i : ℕ) → i < n → p i ≡ q i) → lowest_or n p d ≡ lowest_or n q d
unfolding lowest_or
lowest_ext zero p q d same = refl
lowest_ext (suc n) p q d same = rw (same n (omega arith)) (lowest_ext n p q (cond (q n) n d) (λ i l. same i (omega arith)))

-- The members of a pool

module _ (os : List Owner) where
  -- a member has the pool's number, and does not receive
  pub member_pool : (pool i : ℕ) → in_pool os pool i ≡ true → (owner_at os i).pool ≡ pool
  member_pool pool i t = eqb-true (owner_at os i).pool pool (right (not (owner_at os i).receiving) (eqb (owner_at os i).pool pool) t)

  pub member_sends : (pool i : ℕ) → in_pool os pool i ≡ true → (owner_at os i).receiving ≡ false
  member_sends pool i t = not_true (owner_at os i).receiving (left (not (owner_at os i).receiving) (eqb (owner_at os i).pool pool) t)

  -- a sending object is a member of its own pool
  pub own_member : (h : ℕ) → (owner_at os h).receiving ≡ false → in_pool os (owner_at os h).pool h ≡ true
  own_member h sends = both {a = not (owner_at os h).receiving} (rw sends) (eq-eqb (owner_at os h).pool (owner_at os h).pool refl)

  -- two members of a pool have one lowest object
  pub one_lowest : (h m : ℕ) → (owner_at os h).receiving ≡ false → in_pool os (owner_at os h).pool m ≡ true → lowest_of os m ≡ lowest_of os h
  one_lowest h m sends t =
      let pool = (owner_at os h).pool in
      let same : (owner_at os m).pool ≡ pool = member_pool pool m t in
      let n = suc (go h m) in
      rw same (sym (lowest_hit n (in_pool os pool) 0 m (above_right h m) t) ∙ lowest_hit n (in_pool os pool) 0 h (above_left h m) (own_member h sends))
    where
      go : ℕ → ℕ → ℕ
      go a b = cond (ltb a b) b a

      above_left : (a b : ℕ) → a < suc (go a b)
      above_left a b = ⊎_elim (λ (t' : ltb a b ≡ true). rw t' (let l = ltb-true a b t' in omega arith)) (λ (t' : ltb a b ≡ false). rw t' (omega arith)) (decide (ltb a b))

      above_right : (a b : ℕ) → b < suc (go a b)
      above_right a b = ⊎_elim (λ (t' : ltb a b ≡ true). rw t' (omega arith)) (λ (t' : ltb a b ≡ false). rw t' (let l = ltb-false a b t' in omega arith)) (decide (ltb a b))

  -- objects that each agree with their pool's lowest: what a test says of a member and the lowest one
  with_lowest : (n : ℕ) (p : ℕ → Bool) (agree : ℕ → ℕ → Bool) → ((i : ℕ) → p i ≡ true → (owner_at os i).receiving ≡ false → agree i (lowest_of os i) ≡ true) → all_below n p ≡ true
      → (h m : ℕ) → (owner_at os h).receiving ≡ false → in_pool os (owner_at os h).pool m ≡ true → m < n → lowest_of os h ≡ h → agree m h ≡ true
  with_lowest n p agree each all h m sends t l lowest =
      rw (one_lowest h m sends t ∙ lowest) at (each m (all_facts n p all m l) (member_sends (owner_at os h).pool m t))

  pool_controller : (places n : ℕ) → all_below n (pool_valid places os) ≡ true → (h m : ℕ) → (owner_at os h).receiving ≡ false → in_pool os (owner_at os h).pool m ≡ true → m < n → lowest_of os h ≡ h
      → (owner_at os m).controller ≡ (owner_at os h).controller
  pool_controller places n all h m sends t l lowest =
      eqb-true _ _ (with_lowest n (pool_valid places os) (λ a b. eqb (owner_at os a).controller (owner_at os b).controller)
      (λ i fact own. right (ltb (owner_at os i).pool places) _ (rw own at fact)) all h m sends t l lowest)

-- A pool that a write names

pub record Named (core : Core) (h : ℕ) : Type 0 where
  pub in_use : h < core.object_count
  pub sends : (owner_at core.owners h).receiving ≡ false
  pub lowest : lowest_of core.owners h ≡ h

pub named : (core : Core) (h : ℕ) → names_pool core h ≡ true → Named core h
named core h t =
    let used = ltb h core.object_count in
    let kind = not (owner_at core.owners h).receiving in
    let sending = left (used && kind) (eqb (lowest_of core.owners h) h) t in
    record {
      in_use = ltb-true h core.object_count (left used kind sending);
      sends = not_true (owner_at core.owners h).receiving (right used kind sending);
      lowest = eqb-true (lowest_of core.owners h) h (right (used && kind) (eqb (lowest_of core.owners h) h) t);
    }

-- the member that a write takes is in use and belongs to the pool, whether it is free or not
pub record Member (core : Core) (h m : ℕ) : Type 0 where
  pub in_use : m < core.object_count
  pub pooled : in_pool core.owners (owner_at core.owners h).pool m ≡ true

pub taken_member : (core : Core) (h : ℕ) → Named core h → Member core h (free_member core h)
taken_member core h n = ⊎_elim itself other (lowest_found core.object_count (free_in_pool core h) h)
  where
    itself : free_member core h ≡ h → Member core h (free_member core h)
    itself e = rw e (record { in_use = n.in_use; pooled = own_member core.owners h n.sends })

    other : (free_member core h < core.object_count) × (free_in_pool core h (free_member core h) ≡ true) → Member core h (free_member core h)
    other f = record { in_use = f.0; pooled = left (in_pool core.owners (owner_at core.owners h).pool (free_member core h)) _ f.1 }

-- such a member has the controller of the object that names the pool
pub member_controller : (places : ℕ) (core : Core) (h m : ℕ) → all_below core.object_count (pool_valid places core.owners) ≡ true → Named core h → Member core h m
    → (owner_at core.owners m).controller ≡ (owner_at core.owners h).controller
member_controller places core h m valid n p = pool_controller core.owners places core.object_count valid h m n.sends p.pooled p.in_use n.lowest

-- and settings that agree with that object's
pub member_settings : (F : Format) (core : Core) (ss : List F.Settings) (h m : ℕ) → settings_agreed F core.object_count core.owners ss ≡ true → Named core h → Member core h m
    → F.settings_agree (settings_at F ss m) (settings_at F ss h) ≡ true
member_settings F core ss h m agreed n p =
    with_lowest core.owners core.object_count _ (λ a b. F.settings_agree (settings_at F ss a) (settings_at F ss b)) (λ i fact own. rw own at fact) agreed h m
    n.sends p.pooled p.in_use n.lowest
