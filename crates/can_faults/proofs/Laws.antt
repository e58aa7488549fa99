-- Laws of the first rule that is broken, and of the first object that breaks one.
use Prim.Native.Nat.{ℕ, zero, suc, ◌+◌, ◌<◌}
use native.Mathlib.Numerals.{add-one}
use native.Mathlib.Omega.{arith}
use mathlib.Core.Path.{◌≡◌, refl, ap₂, ◌∙◌}
use mathlib.Core.Bool.{Bool, true, false, cond, ◌&&◌}
use mathlib.Core.List.{List, [], ◌∷◌}
use mathlib.Core.Logic.{⊎_elim}
use Rattle.std.specs.Prelude.{Ok, Err, is_ok}
use Rattle.rules.specs.Repeat.{all_below}
use Rattle.laws.proofs.Repeat.{last_or_below}
use Rattle.can_faults.specs.declared.fault.Fault.{Fault}
use Rattle.can_faults.specs.Fault.{Kept, Test, first_broken, ◌then◌, as_fault, first_fault}

-- every rule of the list is kept
unfoldable pub all_kept : {R : Type 0} → List (Test R) → Bool
all_kept [] = true
all_kept (t ∷ ts) = t.kept && all_kept ts

kept_step : {R : Type 0} (kept : Bool) (r : R) (rest : Kept R) (others : Bool) → is_ok rest ≡ others → is_ok (cond kept rest (Err r)) ≡ (kept && others)
kept_step true r rest others e = e
kept_step false r rest others e = refl

-- none is found broken exactly where all are kept
pub first_kept : {R : Type 0} (ts : List (Test R)) → is_ok (first_broken ts) ≡ all_kept ts
unfolding first_broken all_kept
first_kept [] = refl
first_kept (t ∷ ts) = kept_step t.kept t.rule (first_broken ts) (all_kept ts) (first_kept ts)

-- two in a row are none where both are none
pub then_ok : (a b : Kept Fault) → is_ok (a then b) ≡ (is_ok a && is_ok b)
then_ok (Ok x) b = refl
then_ok (Err e) b = refl

-- a rule is a fault where it is broken
pub as_fault_ok : {R : Type 0} (f : R → Fault) (r : Kept R) → is_ok (as_fault f r) ≡ is_ok r
as_fault_ok f (Ok x) = refl
as_fault_ok f (Err e) = refl

module _ (at : ℕ → Kept Fault) where
  -- no object has a fault exactly where each has none
  pub first_fault_ok : (n : ℕ) → is_ok (first_fault n at) ≡ all_below n (λ h. is_ok (at h))
  unfolding first_fault all_below
  first_fault_ok zero = refl
  first_fault_ok (suc n) = then_ok (first_fault n at) (at n) ∙ ap₂ ◌&&◌ (first_fault_ok n) refl

  module _ (h : ℕ) (none : first_fault h at ≡ Ok tt) where
    -- object h has none, so that there is none up to it
    pub none_more : at h ≡ Ok tt → first_fault (h + 1) at ≡ Ok tt
    unfolding first_fault
    none_more kept = rw (add-one, none, kept)

    -- object h has one, and the objects behind it do not matter
    pub found : (n : ℕ) {f : Fault} → h < n → at h ≡ Err f → first_fault n at ≡ Err f
    unfolding first_fault
    found zero l broken = absurd (omega arith)
    found (suc n) l broken =
        ⊎_elim (λ (e : h ≡ n). rw (← e, none, broken)) (λ (k : h < n). rw (found n k broken)) (last_or_below n h l)
