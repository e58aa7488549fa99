-- `can_calls::perform::get` meets its contract: the reply is told as its verdict and its answer.
use Rattle.can_calls.proofs.Laws.{answered}
use Rattle.can_calls.proofs.perform.get.Goals as goal

pub returns : goal.returns
returns c = answered _ _ (rw (← c.asked.view_is) at c.answered.ensures) c.question_answer.ensures (rw (← c.asked.view_is) at c.ask-asked.ensures)
