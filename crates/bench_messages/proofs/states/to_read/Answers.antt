-- `bench_messages::states::to_read` meets its contract: each test picks its text.
use Rattle.bench_messages.proofs.states.to_read.Goals as goal

pub returns-then-full : goal.returns-then-full
returns-then-full c =
    rw c.if-full.true c.say.ensures

pub returns : goal.returns
returns c =
    rw c.if-full.false c.say-2.ensures
