-- `bench_messages::states::to_send` meets its contract: each test picks its text.
use Rattle.bench_messages.proofs.states.to_send.Goals as goal

pub returns-then-done : goal.returns-then-done
returns-then-done c =
    rw c.if-done.true c.say.ensures

pub returns-then-pending : goal.returns-then-pending
returns-then-pending c =
    rw (c.if-done.false, c.if-pending.true) c.say-then-pending.ensures

pub returns : goal.returns
returns c =
    rw (c.if-done.false, c.if-pending.false) c.say-2.ensures
