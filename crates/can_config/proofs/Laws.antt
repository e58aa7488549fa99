-- Laws about equal runs of bytes, about tests of all places, and about lists that are filled place by place.
use Prim.Native.Nat.{ℕ, ◌+◌, ◌≤◌, ◌<◌}
use native.Mathlib.Decide.{dec_lt, ℕ_discrete}
use native.Mathlib.Omega.{arith}
use mathlib.Core.Path.{◌≡◌, refl, sym, ap₂, ◌∙◌}
use mathlib.Core.Bool.{Bool, true, false, cond, ◌&&◌}
use mathlib.Core.List.{List, [], ◌∷◌}
use mathlib.Core.Logic.{◌⊎◌, inl, inr}
use lib.ListN.{length, get_or, set, length-set}
use lib.Seq.{get_or-set_same, get_or-set_other, ext_get_or}
use lib.Dec.{ltb, eqb}
use borrow.Author.Tests.{lt-ltb, le-ltb, eq-eqb, eqb-true}
use Rattle.rules.specs.Repeat.{all_below, list_below}
use Rattle.rules.specs.Bytes.{same_bytes}
use Rattle.std.specs.Cmp.Lexicographic.{pointwise}
use Rattle.laws.proofs.Tests.{same_truth, decide, clash}
use Rattle.laws.proofs.Repeat.{all_facts, facts_all, length-list_below, get_or-list_below}

-- What the library says of a slice's start is the rules' test of equal bytes.
pub starts_same : (start l : List ℕ) → pointwise eqb start l ≡ same_bytes l start
unfolding same_bytes
starts_same [] [] = refl
starts_same [] (y ∷ l) = refl
starts_same (x ∷ start) [] = refl
starts_same (x ∷ start) (y ∷ l) =
    ap₂ ◌&&◌ (same_truth (eqb x y) (eqb y x) (λ t. eq-eqb y x (sym (eqb-true x y t))) (λ t. eq-eqb x y (sym (eqb-true y x t)))) (starts_same start l)

pub and_left_comm : (a b c : Bool) → (a && (b && c)) ≡ (b && (a && c))
and_left_comm true b c = refl
and_left_comm false true c = refl
and_left_comm false false c = refl

-- Of m places the first n are tested, and the others pass anyway.
pub all_in_use : (n m : ℕ) (p q : ℕ → Bool) → n ≤ m → ((i : ℕ) → i < m → q i ≡ cond (ltb i n) (p i) true) → all_below n p ≡ all_below m q
all_in_use n m p q fits e = same_truth (all_below n p) (all_below m q) (λ t. facts_all m q (λ i l. e i l ∙ go t i (dec_lt i n)))
    (λ t. facts_all n p (λ i l. let within : i < m = omega arith in rw (lt-ltb i n l) at (sym (e i within) ∙ all_facts m q t i within)))
  where
    go : all_below n p ≡ true → (i : ℕ) → Dec (i < n) → cond (ltb i n) (p i) true ≡ true
    go t i (yes l) = rw (lt-ltb i n l) (all_facts n p t i l)
    go t i (no l) = rw (le-ltb i n (omega arith))

-- A test that fails at one place fails of all.
pub all_below_fails : (p : ℕ → Bool) (h n : ℕ) → h < n → p h ≡ false → all_below n p ≡ false
all_below_fails p h n inside fails = go (decide (all_below n p))
  where
    go : (all_below n p ≡ true) ⊎ (all_below n p ≡ false) → all_below n p ≡ false
    go (inl passes) = clash (all_facts n p passes h inside) fails
    go (inr e) = e

-- A list whose first places are filled, and one more of them.
abbrev pub filled : {A : Type 0} → (ℕ → A) → A → ℕ → ℕ → A
filled f d count i = cond (ltb i count) (f i) d

module _ {A : Type 0} (n h : ℕ) (f : ℕ → A) (d : A) (inside : h < n) where
  abbrev old : List A
  old = list_below n (filled f d h)

  elsewhere : (i : ℕ) → (i ≡ h → ⊥) → filled f d h i ≡ filled f d (h + 1) i
  elsewhere i apart = go (dec_lt i h)
    where
      go : Dec (i < h) → filled f d h i ≡ filled f d (h + 1) i
      go (yes l) = rw (lt-ltb i h l, lt-ltb i (h + 1) (omega arith))
      go (no l) = rw (le-ltb i h (omega arith), le-ltb i (h + 1) (omega arith))

  each : (i : ℕ) → i < n → get_or (set old h (f h)) i d ≡ filled f d (h + 1) i
  each i l = go (ℕ_discrete i h)
    where
      go : Dec (i ≡ h) → get_or (set old h (f h)) i d ≡ filled f d (h + 1) i
      go (yes e) =
          rw (e, lt-ltb h (h + 1) (omega arith)) (get_or-set_same old h (f h) d (rw (length-list_below n (filled f d h)) inside))
      go (no apart) = get_or-set_other old h i (f h) d apart ∙ get_or-list_below n (filled f d h) i d l ∙ elsewhere i apart

  stored : set old h (f h) ≡ list_below n (filled f d (h + 1))
  stored =
      let long : length (set old h (f h)) ≡ n = length-set old h (f h) ∙ length-list_below n (filled f d h) in
      ext_get_or d (set old h (f h)) (list_below n (filled f d (h + 1))) (long ∙ sym (length-list_below n (filled f d (h + 1))))
      (λ i l. each i (rw long at l) ∙ sym (get_or-list_below n (filled f d (h + 1)) i d (rw long at l)))

  pub fill_more : {l : List A} {a : A} → l ≡ old → a ≡ f h → set l h a ≡ list_below n (filled f d (h + 1))
  fill_more e q = rw (e, q) stored
