-- Who sends next: the answer that tells a choice.
use Rattle.std.specs.Prelude.{ℕ, ◌≡◌, Option, Result}
use Rattle.std.proofs.Math.Option as math
use Rattle.rules.specs.Outcome.{sends_next}
use Rattle.core_answers.specs.Answer.{verdict_reason}
use Rattle.core_answers.specs.Reply.{next_answer}
use Rattle.core_answers.specs.declared.rejection.Rejection.{Rejection}

pub record Told (o : math.Option ℕ) (r : Result (Option ℕ) Rejection) : Type 0 where
  pub reason_is : verdict_reason r ≡ 0
  pub answer_is : next_answer r ≡ sends_next o
