-- `can_calls::perform::poll` meets its contract: the poll that is made is the one that the request names.
use Rattle.can_calls.specs.Request.{outcome_of}
use Rattle.can_calls.proofs.Laws.{told}
use Rattle.can_calls.proofs.Arms.{last_poll}
use Rattle.can_calls.proofs.perform.poll.Goals as goal

pub returns-in_default : goal.returns-in_default
unfolding outcome_of
returns-in_default c =
    rw (last_poll c.args.request.function c.requires c.in_default.not-PollWrite c.in_default.not-PollRead c.in_default.not-PollMode)
    (told c.with_verdict-in_default.ensures c.main_function_bus_off.ensures)
