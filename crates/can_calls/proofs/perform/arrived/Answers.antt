-- `can_calls::perform::arrived` meets its contract: the reply is told as its verdict and its answer.
use Rattle.can_calls.proofs.Laws.{answered}
use Rattle.can_calls.proofs.perform.arrived.Goals as goal

pub returns : goal.returns
returns c = answered _ _ (rw (← c.arrived.view_is) at c.answered.ensures) c.arrival_answer.ensures (rw (← c.arrived.view_is) at c.frame_arrived-arrived.ensures)
