-- `core_answers::verdict::return_code` meets its contract: an acceptance has code 0, and a rejection the code of its reason.
-- Assumes nothing.
use Rattle.rules.specs.Reason.{return_code}
use Rattle.core_answers.proofs.verdict.return_code.Goals as goal

pub returns-in-Ok : goal.returns-in-Ok
unfolding return_code
returns-in-Ok g c = rw c.in-Ok.is

pub returns-in-Err : goal.returns-in-Err
returns-in-Err g c = rw c.in-Err.is c.busy_or_not_ok.ensures
