-- Laws of repetition below n.
use Prim.Native.Nat.{ℕ, zero, suc, ◌+◌, ◌≤◌, ◌<◌}
use mathlib.Core.Path.{◌≡◌, refl, ap, ap₂, sym, ◌∙◌, subst}
use mathlib.Core.Bool.{Bool, true, ◌&&◌, and-true}
use mathlib.Core.List.{[], ◌∷◌, ◌++◌}
use mathlib.Core.Logic.{◌⊎◌, inl, inr, ⊎_elim}
use native.Mathlib.Omega.{arith}
use native.Mathlib.Decide.{dec_lt, ℕ_discrete}
use native.Mathlib.Numerals.{add-one}
use native.Mathlib.Nat.{eq-or-lt_of_le}
use lib.ListN.{length, get_or, length-append, get_or-append, replicate, length-replicate, get_or-replicate, get_or-eq_default}
use lib.Seq.{get_or-append_seam}
use Rattle.rules.specs.Repeat.{rising, all_below, list_below}
use Rattle.laws.proofs.Tests.{both, left, right}

-- a number below n + 1 is n or below n
pub last_or_below : (n i : ℕ) → i < suc n → (i ≡ n) ⊎ (i < n)
last_or_below n i h = go (ℕ_discrete i n)
  where
    go : Dec (i ≡ n) → (i ≡ n) ⊎ (i < n)
    go (yes e) = inl e
    go (no d) = inr (omega arith)

-- what each step keeps, the repetition keeps
pub rising_keeps : {A : Type 0} (P : A → Type 0) (f : ℕ → A → A) (n : ℕ) → ((i : ℕ) → i < n → (a : A) → P a → P (f i a)) → (a : A) → P a → P (rising n f a)
unfolding rising
rising_keeps P f zero step a h = h
rising_keeps P f (suc n) step a h = step n (omega arith) (rising n f a) (rising_keeps P f n (λ i k. step i (omega arith)) a h)

-- a test of every number below n, as facts and back
pub all_facts : (n : ℕ) (p : ℕ → Bool) → all_below n p ≡ true → (i : ℕ) → i < n → p i ≡ true
unfolding all_below
all_facts zero p h i k = absurd (omega arith)
all_facts (suc n) p h i k =
    ⊎_elim (λ (e : i ≡ n). rw e (right (all_below n p) (p n) h)) (λ (l : i < n). all_facts n p (left (all_below n p) (p n) h) i l) (last_or_below n i k)

pub facts_all : (n : ℕ) (p : ℕ → Bool) → ((i : ℕ) → i < n → p i ≡ true) → all_below n p ≡ true
unfolding all_below
facts_all zero p h = refl
facts_all (suc n) p h = both (facts_all n p (λ i k. h i (omega arith))) (h n (omega arith))

-- tests that agree below n
pub all_below_ext : (n : ℕ) (p q : ℕ → Bool) → ((i : ℕ) → i < n → p i ≡ q i) → all_below n p ≡ all_below n q
unfolding all_below
all_below_ext zero p q h = refl
all_below_ext (suc n) p q h = ap₂ ◌&&◌ (all_below_ext n p q (λ i l. h i (omega arith))) (h n (omega arith))

-- a turn of a loop that tests every number
pub all_below_more : (p : ℕ → Bool) (n : ℕ) {ok r : Bool} → ok ≡ all_below n p → r ≡ p n → (ok && r) ≡ all_below (n + 1) p
unfolding all_below
all_below_more p n e q = rw (add-one, e, q)

-- a test that holds of every number from m
pub all_below_from : (p : ℕ → Bool) (m n : ℕ) → m ≤ n → ((i : ℕ) → m ≤ i → i < n → p i ≡ true) → all_below n p ≡ all_below m p
unfolding all_below
all_below_from p m zero l h = ap (λ (k : ℕ). all_below k p) (let e : 0 ≡ m = omega arith in e)
all_below_from p m (suc n) l h =
    ⊎_elim (λ e. ap (λ (k : ℕ). all_below k p) (sym e))
    (λ lt.
    let le : m ≤ n = omega arith in
    rw (h n le (omega arith)) (and-true (all_below n p) ∙ all_below_from p m n le (λ i a b. h i a (omega arith))))
    (eq-or-lt_of_le l)

pub length-list_below : {A : Type 0} (n : ℕ) (f : ℕ → A) → length (list_below n f) ≡ n
unfolding list_below
length-list_below zero f = refl
length-list_below (suc n) f = simp (length-append, length-list_below n f) (add-one n)

pub get_or-list_below : {A : Type 0} (n : ℕ) (f : ℕ → A) (i : ℕ) (d : A) → i < n → get_or (list_below n f) i d ≡ f i
unfolding list_below
get_or-list_below zero f i d k = absurd (omega arith)
get_or-list_below (suc n) f i d k =
    ⊎_elim
    (λ (e : i ≡ n). rw e (subst (λ (m : ℕ). get_or (list_below n f ++ (f n ∷ [])) m d ≡ f n) (length-list_below n f) (get_or-append_seam (list_below n f) (f n) [] d)))
    (λ (l : i < n). get_or-append (list_below n f) (f n ∷ []) d i (rw (length-list_below n f) l) ∙ get_or-list_below n f i d l)
    (last_or_below n i k)

-- a list of default places has the default everywhere
pub replicate_default : {A : Type 0} (n i : ℕ) (d : A) → get_or (replicate n d) i d ≡ d
replicate_default n i d = go (dec_lt i n)
  where
    go : Dec (i < n) → get_or (replicate n d) i d ≡ d
    go (yes l) = get_or-replicate n i d d l
    go (no l) = get_or-eq_default (replicate n d) d (rw (length-replicate n d) (omega arith))
