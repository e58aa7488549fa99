-- What a call owes, carried from the driver's contracts to a request's: a reply told as a verdict and an answer, and calls that take no
-- memory or no sheet, which leave any as it is.
use Prim.Native.Nat.{ℕ}
use Rattle.std.specs.Prelude.{Result, Ok, Err}
use mathlib.Core.Path.{◌≡◌, refl, ap, sym}
use mathlib.Core.List.{List, []}
use lib.Dec.{eqb}
use Rattle.rules.specs.Core.{Core}
use Rattle.rules.specs.State.{State}
use Rattle.rules.specs.Outcome as rules
use Rattle.rules.specs.Outcome.{Outcome, Answer, no_answer, judged, lifted}
use Rattle.rules.specs.Services as services
use Rattle.rules.specs.Events as events
use Rattle.rules.specs.Calls.{set_controller_mode, ask_controller, tx_complete, bus_off_detected, errors_counted, next_to_send}
use Rattle.rules.specs.Can.{can_format}
use Rattle.rules.specs.Chip.{chip}
use Rattle.laws.proofs.Tests.{cond_map}
use Rattle.laws.proofs.Reasons.{judged_either}
use Rattle.laws.proofs.Sheets.{sheet_none}
use Rattle.can_state.specs.View.{view}
use Rattle.can_state.specs.declared.called.Called.{Called}
use Rattle.core_answers.specs.Answer.{verdict_reason}
use Rattle.core_answers.specs.Performed.{Performed}
use Rattle.core_answers.specs.Reply.{question_of, question_answer}
use Rattle.core_answers.specs.declared.question.Question.{Question}
use Rattle.core_answers.specs.declared.rejection.Rejection.{Rejection}
use Rattle.can_calls.specs.Answer.{answer_of, number_told}
use Rattle.can_calls.specs.declared.answer.Answer as answers
use Rattle.can_calls.specs.declared.answer.Answer.TheVariants.{Nothing}
use Rattle.can_calls.specs.declared.perform.Played.{Played}

-- what a call gave, against the outcome
abbrev pub Gave : Outcome (State can_format) → Played → List ℕ → List ℕ → List ℕ → Type 0
Gave o p ram before after = Performed o (verdict_reason p.verdict) (answer_of p.answer) (view p.state) p.notifications ram before after

-- a question is answered with the number in its reply
pub question_told : {q known : Question} {n : ℕ} (reply : Result ℕ Rejection) → q ≡ known → n ≡ number_told reply → rules.told (question_of known) n ≡ question_answer q reply
question_told (Ok m) is number = rw (is, number)
question_told (Err r) is number = rw (is, number)

-- a verdict alone
pub told : {o : Outcome (State can_format)} {called : Called (Unit {0})} {played : Played} {ram before after : List ℕ}
    → played ≡ record { state = called.state; verdict = called.reply; answer = Nothing; notifications = called.notifications }
    → Performed o (verdict_reason called.reply) no_answer (view called.state) called.notifications ram before after → Gave o played ram before after
told e p = rw e p

-- a verdict with an answer
pub answered : {T : Type 0} {o : Outcome (State can_format)} (called : Called T) (played : Played) {answer : answers.Answer} {given : Answer} {ram before after : List ℕ}
    → (played.state ≡ called.state) × (verdict_reason played.verdict ≡ verdict_reason called.reply) × (played.answer ≡ answer) × (played.notifications ≡ called.notifications)
    → answer_of answer ≡ given → Performed o (verdict_reason called.reply) given (view called.state) called.notifications ram before after → Gave o played ram before after
answered called played e f p = rw (e.0, e.1, e.2, e.3, f) p

module _ {S : Type 0} where
  -- a reply, as the verdict and the answer in it
  pub replied : {o : Outcome S} {reason reason' : ℕ} {answer answer' : Answer} {state : S} {count : ℕ} {ram before after : List ℕ}
      → reason' ≡ reason → answer' ≡ answer → Performed o reason answer state count ram before after → Performed o reason' answer' state count ram before after
  replied e f p = rw (e, f) p

  abbrev with_ram : List ℕ → Outcome S → Outcome S
  with_ram ram o = record { code = o.code; reason = o.reason; answer = o.answer; state = o.state; ram = ram; notifications = o.notifications }

  judged_map : (f : Outcome S → Outcome S) (r : ℕ) (refuse : ℕ → Outcome S) (accept : Outcome S) → judged r (λ n. f (refuse n)) (f accept) ≡ f (judged r refuse accept)
  unfolding judged
  judged_map f r refuse accept = sym (cond_map f (eqb r 0) accept (refuse r))

-- a call that was given no memory owes as much with any
module _ {S : Type 0} {o : Outcome S} {reason : ℕ} {answer : Answer} {state : S} {count : ℕ} where
  keeps : {before after : List ℕ} (ram : List ℕ) {o' : Outcome S} → o' ≡ with_ram ram o
      → Performed o reason answer state count [] before after → Performed o' reason answer state count ram before after
  keeps ram e p =
      rw e
      (record {
        code_is = p.code_is;
        reason_is = p.reason_is;
        answer_is = p.answer_is;
        state_is = p.state_is;
        count_is = p.count_is;
        ram_is = refl;
        sheet_is = p.sheet_is;
      })

  -- and one that writes no notification leaves any sheet
  silent : {ram : List ℕ} (sheet : List ℕ) → o.notifications ≡ [] → Performed o reason answer state count ram [] [] → Performed o reason answer state count ram sheet sheet
  silent sheet e p =
      record {
        code_is = p.code_is;
        reason_is = p.reason_is;
        answer_is = p.answer_is;
        state_is = p.state_is;
        count_is = p.count_is;
        ram_is = p.ram_is;
        sheet_is = rw e (sym (sheet_none sheet));
      }

module _ (r : ℕ) (refuse : ℕ → Outcome Core) (accept : Outcome Core) where
  -- what is judged with this memory is what is judged with none, but for the memory
  with_memory : (s : State can_format) (ram : List ℕ)
      → lifted s (judged r (λ n. with_ram ram (refuse n)) (with_ram ram accept)) ≡ with_ram ram (lifted s (judged r refuse accept))
  with_memory s ram = ap (λ (o : Outcome Core). lifted s o) (judged_map (with_ram ram) r refuse accept)

  -- and writes no notification where neither of its ends does
  no_notification : (refuse r).notifications ≡ [] → accept.notifications ≡ [] → (judged r refuse accept).notifications ≡ []
  no_notification p q = judged_either (λ (o : Outcome Core). o.notifications ≡ []) r refuse accept p (λ e. q)

-- the driver's calls that take no memory, and the two of them that take no sheet either
module _ (s : State can_format) (c : ℕ) (ram : List ℕ) {reason : ℕ} {answer : Answer} {state : State can_format} {count : ℕ} where
  pub set_keeps : (n asked : ℕ) {before after : List ℕ} → Performed (set_controller_mode chip can_format s n [] c asked) reason answer state count [] before after
      → Performed (set_controller_mode chip can_format s n ram c asked) reason answer state count ram before after
  unfolding set_controller_mode services.set_controller_mode
  set_keeps n asked p = keeps ram (with_memory _ _ _ s ram) p

  pub ask_keeps : (q : rules.Question) (n : ℕ) {before after : List ℕ} → Performed (ask_controller chip can_format q s n [] c) reason answer state count [] before after
      → Performed (ask_controller chip can_format q s n ram c) reason answer state count ram before after
  unfolding ask_controller services.ask_controller
  ask_keeps q n p = keeps ram (with_memory _ _ _ s ram) p

  pub counted_keeps : (n tx rx : ℕ) {before after : List ℕ} → Performed (errors_counted chip can_format s n [] c tx rx) reason answer state count [] before after
      → Performed (errors_counted chip can_format s n ram c tx rx) reason answer state count ram before after
  unfolding errors_counted events.errors_counted
  counted_keeps n tx rx p = keeps ram (with_memory _ _ _ s ram) p

  pub sent_keeps : (sheet : List ℕ) → Performed (tx_complete chip can_format s [] c) reason answer state count [] [] []
      → Performed (tx_complete chip can_format s ram c) reason answer state count ram sheet sheet
  unfolding tx_complete events.tx_complete
  sent_keeps sheet p = keeps ram (with_memory _ _ _ s ram) (silent sheet (no_notification _ _ _ refl refl) p)

  pub bus_off_keeps : (sheet : List ℕ) → Performed (bus_off_detected chip can_format s [] c) reason answer state count [] [] []
      → Performed (bus_off_detected chip can_format s ram c) reason answer state count ram sheet sheet
  unfolding bus_off_detected events.bus_off_detected
  bus_off_keeps sheet p = keeps ram (with_memory _ _ _ s ram) (silent sheet (no_notification _ _ _ refl refl) p)

  -- the one that takes memory and no sheet
  pub next_keeps : (sheet : List ℕ) → Performed (next_to_send chip can_format s ram c) reason answer state count ram [] []
      → Performed (next_to_send chip can_format s ram c) reason answer state count ram sheet sheet
  unfolding next_to_send events.next_to_send
  next_keeps sheet p = silent sheet (no_notification _ _ _ refl refl) p
