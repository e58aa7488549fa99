-- What a call gives back, as clauses see it: the next state, what it answers, and the count of its notifications.
use Rattle.std.specs.Prelude.{ℕ, Result}
use Rattle.rules.specs.State.{State}
use Rattle.rules.specs.Can.{can_format}
use Rattle.core_answers.specs.declared.rejection.Rejection.{Rejection}

pub record Given (T : Type 0) : Type 0 where
  pub state : State can_format
  pub reply : Result T Rejection
  pub notifications : ℕ
