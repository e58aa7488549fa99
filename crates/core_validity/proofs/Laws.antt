-- Laws of tests over all places: one more place, two tests at each, and the places below a count and those from it.
use Prim.Native.Nat.{ℕ, zero, suc, ◌+◌, ◌≤◌, ◌<◌}
use native.Mathlib.Numerals.{add-one}
use native.Mathlib.Nat.{eq-or-lt_of_le}
use native.Mathlib.Omega.{arith}
use mathlib.Core.Path.{◌≡◌, refl, sym, ap, ap₂, ◌∙◌}
use mathlib.Core.Logic.{⊎_elim}
use mathlib.Core.Bool.{Bool, true, false, cond, ◌&&◌, and-true, and-false}
use lib.Dec.{ltb}
use borrow.Author.Tests.{lt-ltb, le-ltb}
use Rattle.rules.specs.Repeat.{all_below}
use Rattle.core_validity.specs.Tests.{all_from}

pub and_pairs : (a b c d : Bool) → (a && b && (c && d)) ≡ (a && c && (b && d))
and_pairs true b true d = refl
and_pairs true b false d = and-false b
and_pairs false b c d = refl

-- Tests that agree below n.
pub all_below_ext : (n : ℕ) (p q : ℕ → Bool) → ((i : ℕ) → i < n → p i ≡ q i) → all_below n p ≡ all_below n q
unfolding all_below
all_below_ext zero p q h = refl
all_below_ext (suc n) p q h = ap₂ ◌&&◌ (all_below_ext n p q (λ i l. h i (omega arith))) (h n (omega arith))

-- Two tests at each place.
pub all_below-and : (n : ℕ) (p q : ℕ → Bool) → (all_below n p && all_below n q) ≡ all_below n (λ i. p i && q i)
unfolding all_below
all_below-and zero p q = refl
all_below-and (suc n) p q = and_pairs (all_below n p) (p n) (all_below n q) (q n) ∙ ap (λ (b : Bool). b && (p n && q n)) (all_below-and n p q)

-- One more place.
pub all_below_more : (p : ℕ → Bool) (n : ℕ) {ok r : Bool} → ok ≡ all_below n p → r ≡ p n → (ok && r) ≡ all_below (n + 1) p
unfolding all_below
all_below_more p n e q = rw (add-one, e, q)

-- A test that holds of every place from m.
all_below_from : (p : ℕ → Bool) (m n : ℕ) → m ≤ n → ((i : ℕ) → m ≤ i → i < n → p i ≡ true) → all_below n p ≡ all_below m p
unfolding all_below
all_below_from p m zero l h = ap (λ (k : ℕ). all_below k p) (let e : 0 ≡ m = omega arith in e)
all_below_from p m (suc n) l h =
    ⊎_elim (λ e. ap (λ (k : ℕ). all_below k p) (sym e))
    (λ lt.
    let le : m ≤ n = omega arith in
    rw (h n le (omega arith)) (and-true (all_below n p) ∙ all_below_from p m n le (λ i a b. h i a (omega arith))))
    (eq-or-lt_of_le l)

choice : (t a b : Bool) → (cond t a true && cond t true b) ≡ cond t a b
choice true a b = and-true a
choice false a b = refl

choices : (t a₁ a₂ b₁ b₂ : Bool) → cond t (a₁ && a₂) (b₁ && b₂) ≡ (cond t a₁ b₁ && cond t a₂ b₂)
choices true a₁ a₂ b₁ b₂ = refl
choices false a₁ a₂ b₁ b₂ = refl

-- Two tests of each place in use, and two others of each unused one.
pub by_use : (n count : ℕ) (p₁ p₂ q₁ q₂ : ℕ → Bool)
    → all_below n (λ i. cond (ltb i count) (p₁ i && p₂ i) (q₁ i && q₂ i))
    ≡ (all_below n (λ i. cond (ltb i count) (p₁ i) (q₁ i)) && all_below n (λ i. cond (ltb i count) (p₂ i) (q₂ i)))
by_use n count p₁ p₂ q₁ q₂ =
    all_below_ext n (λ i. cond (ltb i count) (p₁ i && p₂ i) (q₁ i && q₂ i))
    (λ i. cond (ltb i count) (p₁ i) (q₁ i) && cond (ltb i count) (p₂ i) (q₂ i))
    (λ i l. choices (ltb i count) (p₁ i) (p₂ i) (q₁ i) (q₂ i))
    ∙ sym (all_below-and n (λ i. cond (ltb i count) (p₁ i) (q₁ i)) (λ i. cond (ltb i count) (p₂ i) (q₂ i)))

module _ (count : ℕ) (p : ℕ → Bool) where
  -- Before the first unused place nothing is asked.
  pub from_none : true ≡ all_from count count p
  unfolding all_below
  from_none = sym (all_below_from (λ i. cond (ltb i count) true (p i)) 0 count (omega arith) (λ i a b. rw (lt-ltb i count b)))

  -- One more unused place.
  pub from_more : (n : ℕ) {ok r : Bool} → count ≤ n → ok ≡ all_from n count p → r ≡ p n → (ok && r) ≡ all_from (n + 1) count p
  from_more n l e q = all_below_more (λ i. cond (ltb i count) true (p i)) n e (rw (le-ltb n count l) q)

  -- One test for the places in use and another for the unused ones.
  pub by_count : (n : ℕ) (q : ℕ → Bool) → count ≤ n → all_below n (λ i. cond (ltb i count) (q i) (p i)) ≡ (all_below count q && all_from n count p)
  by_count n q l =
      let used : ℕ → Bool = λ i. cond (ltb i count) (q i) true in
      let unused : ℕ → Bool = λ i. cond (ltb i count) true (p i) in
      let first : all_below count q ≡ all_below n used =
      all_below_ext count q used (λ i b. rw (lt-ltb i count b)) ∙ sym (all_below_from used count n l (λ i a b. rw (le-ltb i count a)))
      in
      sym (ap (λ (b : Bool). b && all_below n unused) first ∙ all_below-and n used unused
      ∙ all_below_ext n (λ i. used i && unused i) (λ i. cond (ltb i count) (q i) (p i)) (λ i b. choice (ltb i count) (q i) (p i)))
