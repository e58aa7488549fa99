-- The code's pick against the rules' choice: one step, and what a pick stands for.
use Prim.Native.Nat.{ℕ, ◌+◌}
use native.Mathlib.Numerals.{add-one}
use mathlib.Core.Path.{◌≡◌, refl}
use mathlib.Core.Bool.{Bool, true, false, cond, ◌&&◌}
use mathlib.Core.Option as math
use mathlib.Core.Option.{none, some}
use Rattle.std.specs.Prelude.{Option, Some, None}
use lib.Dec.{ltb}
use Rattle.rules.specs.Repeat.{better, best_below}
use Rattle.core_events.specs.declared.pick.Picked.{Picked}
use Rattle.core_events.specs.Pick.{view_pick, better_pick}

-- the pick that stands for a choice: it carries its object's rank
abbrev pub picked : (ℕ → ℕ) → math.Option ℕ → Option Picked
picked rank none = None
picked rank (some h) = Some (record { number = h; rank = rank h })

pub picked_seen : (rank : ℕ → ℕ) (o : math.Option ℕ) → view_pick (picked rank o) ≡ o
picked_seen rank none = refl
picked_seen rank (some h) = refl

-- a step of the code is a step of the rules
pub step : (fits : ℕ → Bool) (rank : ℕ → ℕ) (n : ℕ) (o : math.Option ℕ) → better_pick n (fits n) (rank n) (picked rank o) ≡ picked rank (better fits rank n o)
unfolding better
step fits rank n none = go (fits n)
  where
    go : (b : Bool) → cond (b && true) (Some (record { number = n; rank = rank n })) None ≡ picked rank (cond b (some n) none)
    go true = refl
    go false = refl
step fits rank n (some best) = go (fits n && ltb (rank best) (rank n))
  where
    go : (b : Bool) → cond b (Some (record { number = n; rank = rank n })) (Some (record { number = best; rank = rank best })) ≡ picked rank (cond b (some n) (some best))
    go true = refl
    go false = refl

-- a turn of the loop over the objects, from what the calls in it say
pub again : (fits : ℕ → Bool) (rank : ℕ → ℕ) (n : ℕ) {best r : Option Picked} {f : Bool} {k : ℕ} → best ≡ picked rank (best_below n fits rank) → f ≡ fits n → k ≡ rank n
    → r ≡ better_pick n f k best → r ≡ picked rank (best_below (n + 1) fits rank)
unfolding best_below
again fits rank n e f k g = rw (add-one, g, e, f, k) (step fits rank n (best_below n fits rank))
