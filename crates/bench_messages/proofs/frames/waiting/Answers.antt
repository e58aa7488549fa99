-- `bench_messages::frames::waiting` meets its contract: each test picks its text.
use Rattle.bench_messages.proofs.frames.waiting.Goals as goal

pub returns-then-off : goal.returns-then-off
returns-then-off c =
    rw c.if-off.true c.say.ensures

pub returns : goal.returns
returns c =
    rw c.if-off.false c.say-2.ensures
