-- `bench_messages::totals::taken` meets its contract: each test picks its text.
use Rattle.bench_messages.proofs.totals.taken.Goals as goal

pub returns-then-some : goal.returns-then-some
returns-then-some c =
    rw c.if-some.true c.say.ensures

pub returns : goal.returns
returns c =
    rw c.if-some.false c.say-2.ensures
