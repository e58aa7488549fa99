-- The highest number that a test holds of; and that the bit named is stray, where there is one.
use Prim.Native.Nat.{ℕ, zero, suc, ◌-◌, ◌<◌, ◌≤◌}
use native.Mathlib.Omega.{arith}
use mathlib.Core.Path.{◌≡◌, refl, sym, ap, ◌∙◌}
use mathlib.Core.Bool.{Bool, true, false, not, cond, ◌&&◌, and-true}
use Rattle.std.specs.Prelude.{Some, None}
use Rattle.rules.specs.Repeat.{all_below}
use Rattle.rules.specs.Can.{stray_at}
use Rattle.laws.proofs.Tests.{and_false}
use Rattle.can_faults.specs.Stray.{highest_below, stray_named, StrayRule}

-- nothing is found below zero
pub highest_none : (p : ℕ → Bool) (n : ℕ) → n ≤ 0 → highest_below n p ≡ None
unfolding highest_below
highest_none p zero l = refl
highest_none p (suc n) l = absurd (omega arith)

-- what is found below n is n - 1, if the test holds of it, and else what is found below n - 1
pub highest_step : (p : ℕ → Bool) (n : ℕ) → 0 < n → highest_below n p ≡ cond (p (n - 1)) (Some (n - 1)) (highest_below (n - 1) p)
unfolding highest_below
highest_step p zero above = absurd (omega arith)
highest_step p (suc n) above =
    let one_less : suc n - 1 ≡ n = omega arith in
    rw one_less

module _ (code mask : ℕ) where
  -- the bit found is stray exactly if not none is; t says whether bit n, the last one, is
  named : (n : ℕ) (t : Bool) → stray_at code mask n ≡ t
      → stray_named code mask (cond t (Some n) (highest_below n (stray_at code mask))) ≡ not (all_below n (λ k. not (stray_at code mask k)) && not t)
  unfolding highest_below all_below
  named zero true stray = stray
  named zero false stray = refl
  named (suc n) true stray = stray ∙ ap not (sym (and_false (all_below (suc n) (λ k. not (stray_at code mask k)))))
  named (suc n) false stray = named n (stray_at code mask n) refl ∙ ap not (sym (and-true (all_below (suc n) (λ k. not (stray_at code mask k)))))

pub stray_exactly : StrayRule
unfolding highest_below all_below
stray_exactly code mask = named code mask 28 (stray_at code mask 28) refl
