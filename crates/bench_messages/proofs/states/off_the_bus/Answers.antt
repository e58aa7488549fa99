-- `bench_messages::states::off_the_bus` meets its contract: each test picks its text.
use borrow.Author.Tests.{eq-eqb, ne_eqb}
use Rattle.bench_messages.proofs.states.off_the_bus.Goals as goal

pub returns-then-asked-eq0 : goal.returns-then-asked-eq0
returns-then-asked-eq0 c =
    rw (eq-eqb c.args.asked 0 c.if-asked-eq0.true) c.say.ensures

pub returns : goal.returns
returns c =
    rw (ne_eqb c.args.asked 0 c.if-asked-eq0.false) c.say-2.ensures
