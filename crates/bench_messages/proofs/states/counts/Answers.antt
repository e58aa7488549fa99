-- `bench_messages::states::counts` meets its contract: each test picks its text.
use Rattle.bench_messages.proofs.states.counts.Goals as goal

pub returns-then-initialised : goal.returns-then-initialised
returns-then-initialised c =
    rw c.if-initialised.true c.say.ensures

pub returns : goal.returns
returns c =
    rw c.if-initialised.false c.say-2.ensures
