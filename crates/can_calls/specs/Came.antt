-- What came of a call, as clauses see it.
use Rattle.std.specs.Prelude.{ℕ, Result}
use Rattle.rules.specs.State.{State}
use Rattle.rules.specs.Can.{can_format}
use Rattle.core_answers.specs.declared.rejection.Rejection.{Rejection}
use Rattle.can_calls.specs.declared.answer.Answer.{Answer}

pub record Came : Type 0 where
  pub state : State can_format
  pub verdict : Result (Unit {0}) Rejection
  pub answer : Answer
  pub notifications : ℕ
