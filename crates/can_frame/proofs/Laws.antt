-- Laws of the two searches in a list of lengths that find none, for any list, and of a test that holds of every number below some n.
-- Assumes nothing.
use Prim.Native.Nat.{ℕ, zero, suc, ◌<◌}
use mathlib.Core.Path.{◌≡◌, refl, subst, sym}
use mathlib.Core.Bool.{Bool, true, false, ◌&&◌}
use mathlib.Core.List.{List, [], ◌∷◌}
use mathlib.Core.Logic.{⊎_elim}
use native.Mathlib.Omega.{arith}
use native.Mathlib.Nat.{eq-or-lt_of_le, le_of_suc-le-suc}
use lib.Dec.{T, leb, leb→le}
use lib.ListN.{length}
use borrow.Author.Tests.{lt-leb}
use Rattle.rules.specs.Repeat.{all_below}
use Rattle.rules.specs.Can.{next_length, lengths_below}

pub and_left : (a b : Bool) → T (a && b) → T a
and_left true b t = tt
and_left false b t = t

pub and_right : (a b : Bool) → T (a && b) → T b
and_right true b t = t
and_right false b t = absurd t

-- every one of the lengths is at most m
abbrev pub at_most : ℕ → List ℕ → Bool
at_most m [] = true
at_most m (l ∷ ls) = leb l m && at_most m ls

-- n is above every length, so the search finds none
pub passes_all : (ls : List ℕ) (m : ℕ) {n : ℕ} → T (at_most m ls) → m < n → (255 ≡ next_length ls n) × (length ls ≡ lengths_below ls n)
unfolding next_length lengths_below
passes_all [] m low above = (refl, refl)
passes_all (l ∷ ls) m {n} low above =
    let rest = passes_all ls m (and_right (leb l m) (at_most m ls) low) above in
    let passed = lt-leb n l (omega (arith, leb→le l m (and_left (leb l m) (at_most m ls) low))) in
    rw passed (rest.0, omega (arith, rest.1))

-- what holds of every number below n holds of each
pub below_at : (n : ℕ) (p : ℕ → Bool) → T (all_below n p) → (k : ℕ) → k < n → T (p k)
unfolding all_below
below_at zero p t k h = absurd (omega arith)
below_at (suc n) p t k h =
    ⊎_elim
    (λ e. subst (λ (i : ℕ). T (p i)) (sym e) (and_right (all_below n p) (p n) t))
    (λ l. below_at n p (and_left (all_below n p) (p n) t) k l)
    (eq-or-lt_of_le (le_of_suc-le-suc h))
