-- `can_calls::perform::next` meets its contract: the reply is told as its verdict and its answer.
use Rattle.can_calls.proofs.Laws.{replied}
use Rattle.can_calls.proofs.perform.next.Goals as goal

pub returns : goal.returns
returns c = replied c.verdict.ensures c.next_answer.ensures c.next_to_send-reply.ensures
