-- The controllers that Init stops: a count past the last place stops no more than all of them.
use Prim.Native.Nat.{ℕ, zero, suc, ◌<◌, min}
use native.Mathlib.Omega.{arith}
use mathlib.Core.Path.{◌≡◌, refl, ap₂}
use mathlib.Core.Bool.{cond}
use mathlib.Core.List.{List, [], ◌∷◌, ◌++◌}
use lib.Dec.{ltb}
use Rattle.rules.specs.Repeat.{list_below}
use Rattle.core_places.proofs.Laws.{limited_count}

-- lists that agree below n
list_below_ext : {A : Type 0} (n : ℕ) (f g : ℕ → A) → ((i : ℕ) → i < n → f i ≡ g i) → list_below n f ≡ list_below n g
unfolding list_below
list_below_ext zero f g h = refl
list_below_ext (suc n) f g h = ap₂ (λ l a. l ++ (a ∷ [])) (list_below_ext n f g (λ i l. h i (omega arith))) (h n (omega arith))

pub limited_list : {A : Type 0} (n count : ℕ) (a d : A) → list_below n (λ c. cond (ltb c (min count n)) a d) ≡ list_below n (λ c. cond (ltb c count) a d)
limited_list n count a d =
    list_below_ext n (λ c. cond (ltb c (min count n)) a d) (λ c. cond (ltb c count) a d) (λ c below. rw (limited_count c n count below))
