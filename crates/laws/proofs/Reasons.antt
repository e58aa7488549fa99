-- Laws of the lists of reasons.
use Prim.Native.Nat.{ℕ, zero, suc}
use mathlib.Core.Path.{◌≡◌, refl}
use mathlib.Core.Bool.{Bool, true, false, not, cond}
use mathlib.Core.List.{List, [], ◌∷◌}
use lib.ListN.{get_or}
use lib.Dec.{eqb}
use borrow.Author.Tests.{eqb-true, eq-eqb}
use Rattle.rules.specs.Reason.{Check, ◌if◌, first_reason, ◌then◌, reasons_named, return_code, E_OK, E_NOT_OK, CAN_BUSY, OBJECT_BUSY}
use Rattle.rules.specs.Outcome.{Outcome, judged}
use Rattle.laws.proofs.Tests.{left, right, clash, cond_both, not_true}

-- no reason: the first check does not apply, and the rest give none either
pub head_passed : (c : Check) (cs : List Check) → eqb c.reason 0 ≡ false → first_reason (c ∷ cs) ≡ 0 → c.applies ≡ false
unfolding first_reason
head_passed c cs named h = go c.applies refl
  where
    go : (b : Bool) → c.applies ≡ b → c.applies ≡ false
    go false e = e
    go true e = clash (eq-eqb c.reason 0 (rw e at h)) named

pub tail_passed : (c : Check) (cs : List Check) → eqb c.reason 0 ≡ false → first_reason (c ∷ cs) ≡ 0 → first_reason cs ≡ 0
unfolding first_reason
tail_passed c cs named h = rw (head_passed c cs named h) at h

-- two reasons in a row: none of the first, and none of the second
pub then_first : (a b : ℕ) → (a then b) ≡ 0 → a ≡ 0
then_first a b h = go (eqb a 0) refl
  where
    go : (t : Bool) → eqb a 0 ≡ t → a ≡ 0
    go true e = eqb-true a 0 e
    go false e = rw e at h

pub then_second : (a b : ℕ) → (a then b) ≡ 0 → b ≡ 0
then_second a b h = rw (eq-eqb a 0 (then_first a b h)) at h

pub then_none : (a b : ℕ) → a ≡ 0 → b ≡ 0 → (a then b) ≡ 0
then_none a b p q = rw (p, q)

-- a property of both outcomes holds of the judged one
pub judged_cases : {S : Type 0} (P : Outcome S → Type 0) (r : ℕ) (refuse : ℕ → Outcome S) (accept : Outcome S) → (eqb r 0 ≡ false → P (refuse r)) → (r ≡ 0 → P accept) → P (judged r refuse accept)
unfolding judged
judged_cases P r refuse accept p q = go (eqb r 0) refl
  where
    go : (b : Bool) → eqb r 0 ≡ b → P (cond b accept (refuse r))
    go true e = q (eqb-true r 0 e)
    go false e = p e

pub judged_either : {S : Type 0} (P : Outcome S → Type 0) (r : ℕ) (refuse : ℕ → Outcome S) (accept : Outcome S) → P (refuse r) → (r ≡ 0 → P accept) → P (judged r refuse accept)
judged_either P r refuse accept p q = judged_cases P r refuse accept (λ e. p) q

-- the return code tells a rejection from an acceptance
pub rejected_code : (r : ℕ) → eqb r 0 ≡ false → eqb (return_code r) E_OK ≡ false
unfolding return_code
rejected_code r e = rw e (cond_both (λ (x : ℕ). eqb x 0 ≡ false) (eqb r OBJECT_BUSY) CAN_BUSY E_NOT_OK (λ t. refl) (λ t. refl))

-- the check at position i does not apply where no reason was found
pub check_passed : (i : ℕ) (cs : List Check) → reasons_named cs ≡ true → first_reason cs ≡ 0 → (get_or cs i (0 if false)).applies ≡ false
unfolding first_reason reasons_named
check_passed i [] named h = refl
check_passed zero (c ∷ cs) named h = head_passed c cs (not_true (eqb c.reason 0) (left (not (eqb c.reason 0)) (reasons_named cs) named)) h
check_passed (suc i) (c ∷ cs) named h =
    check_passed i cs (right (not (eqb c.reason 0)) (reasons_named cs) named)
    (tail_passed c cs (not_true (eqb c.reason 0) (left (not (eqb c.reason 0)) (reasons_named cs) named)) h)

-- the reason 0 accepts, any other refuses
pub judged_accepts : {S : Type 0} (r : ℕ) (refuse : ℕ → Outcome S) (accept : Outcome S) → r ≡ 0 → judged r refuse accept ≡ accept
unfolding judged
judged_accepts r refuse accept e = rw e

pub judged_refuses : {S : Type 0} (r : ℕ) (refuse : ℕ → Outcome S) (accept : Outcome S) → eqb r 0 ≡ false → judged r refuse accept ≡ refuse r
unfolding judged
judged_refuses r refuse accept e = rw e
