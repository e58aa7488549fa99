-- `bench_messages::states::errors` meets its contract: each test picks its text.
use Rattle.bench_messages.proofs.states.errors.Goals as goal

pub returns-then-off : goal.returns-then-off
returns-then-off c =
    rw c.if-off.true c.say.ensures

pub returns-then-recovering : goal.returns-then-recovering
returns-then-recovering c =
    rw (c.if-off.false, c.if-recovering.true) c.say-then-recovering.ensures

pub returns : goal.returns
returns c =
    rw (c.if-off.false, c.if-recovering.false) c.say-2.ensures
