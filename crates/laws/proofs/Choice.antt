-- The number below n that fits with the highest rank, the lowest among equals.
use Prim.Native.Nat.{ℕ, zero, suc, ◌≤◌, ◌<◌}
use mathlib.Core.Path.{◌≡◌, refl, ap}
use mathlib.Core.Bool.{Bool, true, false, cond, ◌&&◌}
use mathlib.Core.Option.{Option, none, some}
use mathlib.Core.Logic.{◌⊎◌, inl, inr, ⊎_elim}
use native.Mathlib.Omega.{arith}
use native.Mathlib.Decide.{dec_lt, ℕ_discrete}
use native.Mathlib.Nat.{eq-or-lt_of_le}
use lib.Dec.{ltb}
use borrow.Author.Tests.{ltb-true, ltb-false}
use Rattle.rules.specs.Repeat.{better, best_below}
use Rattle.laws.proofs.Tests.{left, right, clash, decide}
use Rattle.laws.proofs.Repeat.{last_or_below}

-- h fits; no other that fits ranks higher, and none below h as high
pub record Best (n : ℕ) (fits : ℕ → Bool) (rank : ℕ → ℕ) (h : ℕ) : Type 0 where
  pub below : h < n
  pub fitting : fits h ≡ true
  pub highest : (j : ℕ) → j < n → fits j ≡ true → rank j ≤ rank h
  pub lowest : (j : ℕ) → j < h → fits j ≡ true → rank j < rank h

-- what a choice among the numbers below n tells: the best, or that none fits
abbrev pub Picked : ℕ → (ℕ → Bool) → (ℕ → ℕ) → Option ℕ → Type 0
Picked n fits rank none = (j : ℕ) → j < n → fits j ≡ false
Picked n fits rank (some h) = Best n fits rank h

module _ (fits : ℕ → Bool) (rank : ℕ → ℕ) where
  -- what holds of the numbers below n, and of n, holds of those below n + 1
  also : (P : ℕ → Type 0) (n : ℕ) → ((j : ℕ) → j < n → P j) → P n → (j : ℕ) → j < suc n → P j
  also P n below last j l = ⊎_elim (λ (e : j ≡ n). rw e last) (λ (k : j < n). below j k) (last_or_below n j l)

  -- one more number against the best so far
  one_more : (n : ℕ) (o : Option ℕ) → Picked n fits rank o → Picked (suc n) fits rank (better fits rank n o)
  unfolding better
  one_more n none p = go (fits n) refl
    where
      go : (t : Bool) → fits n ≡ t → Picked (suc n) fits rank (cond t (some n) none)
      go false e = also (λ j. fits j ≡ false) n p e
      go true e =
          record {
            below = omega arith;
            fitting = e;
            highest = also (λ j. fits j ≡ true → rank j ≤ rank n) n (λ j l f. clash f (p j l)) (λ f. omega arith);
            lowest = λ j l f. clash f (p j l);
          }
  one_more n (some b) p = go (decide (fits n && ltb (rank b) (rank n)))
    where
      go : ((fits n && ltb (rank b) (rank n)) ≡ true) ⊎ ((fits n && ltb (rank b) (rank n)) ≡ false) → Picked (suc n) fits rank (cond (fits n && ltb (rank b) (rank n)) (some n) (some b))
      go (inl e) =
          let over = ltb-true (rank b) (rank n) (right (fits n) (ltb (rank b) (rank n)) e) in
          rw e
          (record {
            below = omega arith;
            fitting = left (fits n) (ltb (rank b) (rank n)) e;
            highest = also (λ j. fits j ≡ true → rank j ≤ rank n) n (λ j l f. omega (arith, p.highest j l f)) (λ f. omega arith);
            lowest = λ j l f. omega (arith, p.highest j l f);
          })
      go (inr e) =
          rw e
          (record {
            below = let l = p.below in omega arith;
            fitting = p.fitting;
            highest = also (λ j. fits j ≡ true → rank j ≤ rank b) n p.highest (λ f. ltb-false (rank b) (rank n) (rw f at e));
            lowest = p.lowest;
          })

  pub best_picked : (n : ℕ) → Picked n fits rank (best_below n fits rank)
  unfolding best_below
  best_picked zero = λ j l. absurd (omega arith)
  best_picked (suc n) = one_more n (best_below n fits rank) (best_picked n)

  -- there is one best
  one_best : (n h k : ℕ) → Best n fits rank h → Best n fits rank k → h ≡ k
  one_best n h k a b = go (dec_lt h k) (dec_lt k h)
    where
      go : Dec (h < k) → Dec (k < h) → h ≡ k
      go (yes l) r = absurd (omega (arith, b.lowest h l a.fitting, a.highest k b.below b.fitting))
      go (no l) (yes r) = absurd (omega (arith, a.lowest k r b.fitting, b.highest h a.below a.fitting))
      go (no l) (no r) = omega arith

  one_pick : (n : ℕ) (o q : Option ℕ) → Picked n fits rank o → Picked n fits rank q → o ≡ q
  one_pick n none none a b = refl
  one_pick n none (some k) a b = clash b.fitting (a k b.below)
  one_pick n (some h) none a b = clash a.fitting (b h a.below)
  one_pick n (some h) (some k) a b = ap some (one_best n h k a b)

  -- what a choice tells, and what must be chosen
  pub choice_tells : (n : ℕ) (o : Option ℕ) → best_below n fits rank ≡ o → Picked n fits rank o
  choice_tells n o e = rw e at (best_picked n)

  pub choice_must : (n : ℕ) (o : Option ℕ) → Picked n fits rank o → best_below n fits rank ≡ o
  choice_must n o p = one_pick n (best_below n fits rank) o (best_picked n) p

  -- the best comes before each other that fits: by a higher rank, or by the lower number among equals; and who does so is the best
  pub best_first : (n h : ℕ) → Best n fits rank h → (j : ℕ) → j < n → fits j ≡ true → (j ≡ h → ⊥) → (rank j < rank h) ⊎ ((rank j ≡ rank h) × (h < j))
  best_first n h b j l f d = go (dec_lt j h) (eq-or-lt_of_le (b.highest j l f))
    where
      go : Dec (j < h) → (rank j ≡ rank h) ⊎ (rank j < rank h) → (rank j < rank h) ⊎ ((rank j ≡ rank h) × (h < j))
      go (yes k) r = inl (b.lowest j k f)
      go (no k) (inr r) = inl r
      go (no k) (inl e) = inr (e, omega arith)

  pub first_best : (n h : ℕ) → h < n → fits h ≡ true → ((j : ℕ) → j < n → fits j ≡ true → (j ≡ h → ⊥) → (rank j < rank h) ⊎ ((rank j ≡ rank h) × (h < j))) → Best n fits rank h
  first_best n h l f first =
      record {
        below = l;
        fitting = f;
        highest = λ j k g. high j k g (ℕ_discrete j h);
        lowest = λ j k g. ⊎_elim (λ (r : rank j < rank h). r) (λ (e : (rank j ≡ rank h) × (h < j)). absurd (omega arith)) (first j (omega arith) g (λ e. omega arith));
      }
    where
      high : (j : ℕ) → j < n → fits j ≡ true → Dec (j ≡ h) → rank j ≤ rank h
      high j k g (yes e) = rw e (omega arith)
      high j k g (no d) = ⊎_elim (λ (r : rank j < rank h). omega arith) (λ (e : (rank j ≡ rank h) × (h < j)). omega arith) (first j k g d)
