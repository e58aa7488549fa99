-- Repetition over the numbers below n. Each recurses from the top, so that a loop's turn is one unfolding.
use Rattle.std.specs.Prelude.{ℕ, zero, suc, Bool, true, cond, ◌&&◌, List, [], ◌∷◌, ◌++◌, ltb}
use Rattle.std.proofs.Math.Option.{Option, none, some}

-- "in rising order": f 0, then f 1, up to f (n - 1), each on what the last one left
unfoldable pub rising : {A : Type 0} → ℕ → (ℕ → A → A) → A → A
rising zero f a = a
rising (suc n) f a = f n (rising n f a)

-- p holds of every number below n
unfoldable pub all_below : ℕ → (ℕ → Bool) → Bool
all_below zero p = true
all_below (suc n) p = all_below n p && p n

-- the list f 0, f 1, up to f (n - 1)
unfoldable pub list_below : {A : Type 0} → ℕ → (ℕ → A) → List A
list_below zero f = []
list_below (suc n) f = list_below n f ++ (f n ∷ [])

-- the lists f 0, f 1, up to f (n - 1), one after the other
unfoldable pub concat_below : {A : Type 0} → ℕ → (ℕ → List A) → List A
concat_below zero f = []
concat_below (suc n) f = concat_below n f ++ f n

-- the lowest number below n of which p holds; d where it holds of none
unfoldable pub lowest_or : ℕ → (ℕ → Bool) → ℕ → ℕ
lowest_or zero p d = d
lowest_or (suc n) p d = lowest_or n p (cond (p n) n d)

-- n against the best so far: it must fit, and rank higher than the best if there is one
unfoldable pub better : (ℕ → Bool) → (ℕ → ℕ) → ℕ → Option ℕ → Option ℕ
better fits rank n none = cond (fits n) (some n) none
better fits rank n (some best) = cond (fits n && ltb (rank best) (rank n)) (some n) (some best)

-- the number below n that fits with the highest rank, the lowest among equals
unfoldable pub best_below : ℕ → (ℕ → Bool) → (ℕ → ℕ) → Option ℕ
best_below zero fits rank = none
best_below (suc n) fits rank = better fits rank n (best_below n fits rank)
