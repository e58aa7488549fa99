-- What a call owes: its answer, the next state, the memory, the number of notifications and every word of the sheet are those of
-- the outcome that the rules define. 01, "How much each call owes".
use Rattle.std.specs.Prelude.{ℕ, ◌≡◌, List, length}
use Rattle.rules.specs.Notification.{Notification, sheet_after}
use Rattle.rules.specs.Reason.{return_code}
use Rattle.rules.specs.Outcome.{Outcome, Answer}

-- o is the defined outcome, of a driver state or of its core; then what the call gave: reason, answer, next state, count, memory, and the
-- sheet before and after
pub record Performed {S : Type 0} (o : Outcome S) (reason : ℕ) (answer : Answer) (state : S) (count : ℕ) (ram before after : List ℕ) : Type 0 where
  pub code_is : return_code reason ≡ o.code
  pub reason_is : reason ≡ o.reason
  pub answer_is : answer ≡ o.answer
  pub state_is : state ≡ o.state
  pub count_is : count ≡ length o.notifications
  pub ram_is : ram ≡ o.ram
  pub sheet_is : after ≡ sheet_after o.notifications before

-- the part of it that a report owes: the notifications stand on the sheet, and the count is theirs
pub record Noted (notes : List Notification) (before after : List ℕ) (count : ℕ) : Type 0 where
  pub count_is : count ≡ length notes
  pub sheet_is : after ≡ sheet_after notes before
