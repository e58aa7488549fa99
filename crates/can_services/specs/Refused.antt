-- What a refused service hands back: the state as it was, the reason, and its development error on the sheet.
use Rattle.std.specs.Prelude.{ℕ, ◌≡◌, List, Err}
use Rattle.rules.specs.Outcome.{service_report}
use Rattle.core_answers.specs.Answer.{reason_of}
use Rattle.core_answers.specs.Performed.{Noted}
use Rattle.core_answers.specs.declared.rejection.Rejection.{Rejection}
use Rattle.can_state.specs.declared.state.State.{State}
use Rattle.can_state.specs.declared.called.Called.{Called}

-- the service's number, the reason, the state that the service was given; then what it gave, and the sheet before and after
pub record Refused (service : ℕ) (r : Rejection) (state : State) (c : Called (Unit {0})) (before after : List ℕ) : Type 0 where
  pub reply_is : c.reply ≡ Err r
  pub state_is : c.state ≡ state
  pub noted : Noted (service_report service (reason_of r)) before after c.notifications
