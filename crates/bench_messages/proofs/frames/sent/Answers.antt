-- `bench_messages::frames::sent` meets its contract: each test picks its text.
use Rattle.bench_messages.proofs.frames.sent.Goals as goal

pub returns-then-done : goal.returns-then-done
returns-then-done c =
    rw c.if-done.true c.say.ensures

pub returns : goal.returns
returns c =
    rw c.if-done.false c.say-2.ensures
