-- `bench_messages::notices::closing` meets its contract: each test picks its text.
use borrow.Author.Tests.{eq-eqb, ne_eqb}
use Rattle.bench_messages.proofs.notices.closing.Goals as goal

pub returns-then-kind-eq1 : goal.returns-then-kind-eq1
returns-then-kind-eq1 c =
    rw (eq-eqb c.args.kind 1 c.if-kind-eq1.true) c.say.ensures

pub returns-then-by_bus_off : goal.returns-then-by_bus_off
returns-then-by_bus_off c =
    rw (ne_eqb c.args.kind 1 c.if-kind-eq1.false, c.if-by_bus_off.true) c.say-then-by_bus_off.ensures

pub returns : goal.returns
returns c =
    rw (ne_eqb c.args.kind 1 c.if-kind-eq1.false, c.if-by_bus_off.false) c.say-2.ensures
