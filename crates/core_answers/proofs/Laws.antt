-- No rejection has the number of an acceptance, and what a call owes by the reason that it found.
use Prim.Native.Nat.{ℕ}
use Rattle.std.specs.Prelude.{Result, Ok, Err}
use Rattle.std.specs.Result.{result_and}
use mathlib.Core.Path.{◌≡◌, refl, sym, ap, ap₂, ◌∙◌}
use mathlib.Core.Bool.{false}
use mathlib.Core.List.{List, []}
use lib.Dec.{eqb}
use Rattle.rules.specs.Reason.{return_code, ◌then◌}
use Rattle.rules.specs.Notification.{Notification}
use Rattle.rules.specs.Outcome.{Outcome, Answer, rejected, accepted, judged}
use Rattle.laws.proofs.Reasons.{judged_accepts, judged_refuses}
use Rattle.laws.proofs.Sheets.{sheet_none}
use Rattle.core_answers.specs.Answer.{reason_of, verdict_reason}
use Rattle.core_answers.specs.Performed.{Performed, Noted}
use Rattle.core_answers.specs.declared.rejection.Rejection.{Rejection}
use Rattle.core_answers.specs.declared.rejection.Rejection.TheVariants.{ParamHandle, ParamDataLength, ParamController, Uninit, Transition, InitFailed, SheetTooShort, WrongRamSize, BadIdentifier, NotStarted, ObjectBusy, BusOff, NothingToSend, BadLength, InvalidState, ErrorCountTooLarge}

pub reason_named : (r : Rejection) → eqb (reason_of r) 0 ≡ false
reason_named ParamHandle = refl
reason_named ParamDataLength = refl
reason_named ParamController = refl
reason_named Uninit = refl
reason_named Transition = refl
reason_named InitFailed = refl
reason_named SheetTooShort = refl
reason_named WrongRamSize = refl
reason_named BadIdentifier = refl
reason_named NotStarted = refl
reason_named ObjectBusy = refl
reason_named BusOff = refl
reason_named NothingToSend = refl
reason_named BadLength = refl
reason_named InvalidState = refl
reason_named ErrorCountTooLarge = refl

-- one verdict and then another: the first reason there is
pub and_reason : {T : Type 0} (first : Result (Unit {0}) Rejection) (second : Result T Rejection) → verdict_reason (result_and first second) ≡ (verdict_reason first then verdict_reason second)
and_reason (Ok x) second = refl
and_reason (Err r) second = rw (reason_named r)

-- a verdict behind another: its reason is the first's, or else its own
pub behind : {T : Type 0} (first : Result (Unit {0}) Rejection) (second : Result T Rejection) {both : Result T Rejection} {a b : ℕ} → both ≡ result_and first second
    → verdict_reason first ≡ a → verdict_reason second ≡ b → verdict_reason both ≡ (a then b)
behind first second e f g = ap verdict_reason e ∙ and_reason first second ∙ ap₂ (λ (a b : ℕ). a then b) f g

-- where both pass, the second is what they come to
pub second_passed : {T : Type 0} (first : Result (Unit {0}) Rejection) (second : Result T Rejection) {x : T} → result_and first second ≡ Ok x → second ≡ Ok x
second_passed (Ok u) second e = e
second_passed (Err r) second e = cc

-- nothing is written
pub noted_none : (sheet : List ℕ) → Noted [] sheet sheet 0
noted_none sheet = record { count_is = refl; sheet_is = sym (sheet_none sheet) }

-- r is the reason that a call found; with it state and memory stay as they were
module _ {S : Type 0} (r : ℕ) (report : ℕ → List Notification) (refusal : Answer) (s : S) (ram : List ℕ) where
  -- it found one: the call owes what it reports of it
  pub refused_performed : (accept : Outcome S) {reason count : ℕ} {state : S} {before after : List ℕ} → reason ≡ r → eqb reason 0 ≡ false → state ≡ s → Noted (report reason) before after count
      → Performed (judged r (rejected report refusal s ram) accept) reason refusal state count ram before after
  refused_performed accept {reason} found e same told =
      rw (← found, judged_refuses reason (rejected report refusal s ram) accept e)
      (record {
        code_is = refl;
        reason_is = refl;
        answer_is = refl;
        state_is = same;
        count_is = told.count_is;
        ram_is = refl;
        sheet_is = told.sheet_is;
      })

  -- it found none: the call owes its answer, state and memory, and what it tells
  pub told_performed : (answer : Answer) (next : S) (ram_next : List ℕ) (notes : List Notification) {reason count : ℕ} {given : Answer} {state : S} {after sheet sheet_next : List ℕ}
      → reason ≡ r → reason ≡ 0 → given ≡ answer → state ≡ next → after ≡ ram_next → Noted notes sheet sheet_next count
      → Performed (judged r (rejected report refusal s ram) (accepted answer next ram_next notes)) reason given state count after sheet sheet_next
  unfolding return_code
  told_performed answer next ram_next notes found e answer_so state_so ram_so noted =
      rw (judged_accepts r (rejected report refusal s ram) (accepted answer next ram_next notes) (sym found ∙ e))
      (record {
        code_is = rw e;
        reason_is = e;
        answer_is = answer_so;
        state_is = state_so;
        count_is = noted.count_is;
        ram_is = ram_so;
        sheet_is = noted.sheet_is;
      })

  -- the same where it writes nothing
  pub accepted_performed : (answer : Answer) (next : S) (ram_next sheet : List ℕ) {reason : ℕ} {given : Answer} {state : S} {after : List ℕ}
      → reason ≡ r → reason ≡ 0 → given ≡ answer → state ≡ next → after ≡ ram_next
      → Performed (judged r (rejected report refusal s ram) (accepted answer next ram_next [])) reason given state 0 after sheet sheet
  accepted_performed answer next ram_next sheet found e answer_so state_so ram_so = told_performed answer next ram_next [] found e answer_so state_so ram_so (noted_none sheet)
