-- `can_calls::perform::write` meets its contract: the reply is told as its verdict and its answer, and the handle is the number's low 16 bits.
use Rattle.can_calls.proofs.Laws.{answered}
use Rattle.can_calls.proofs.perform.write.Goals as goal

pub returns : goal.returns
returns c = answered _ _ (rw (← c.written.view_is) at c.answered.ensures) c.write_answer.ensures (rw (← c.written.view_is) at c.write-written.ensures)
