-- `bench_messages::totals::heading` meets its contract: each test picks its text.
use Rattle.bench_messages.proofs.totals.heading.Goals as goal

pub returns-then-several : goal.returns-then-several
returns-then-several c =
    rw c.if-several.true c.say.ensures

pub returns : goal.returns
returns c =
    rw c.if-several.false c.say-2.ensures
