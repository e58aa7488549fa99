-- `bench_messages::states::sending` meets its contract: each test picks its text.
use borrow.Author.Tests.{eq-eqb, ne_eqb}
use Rattle.bench_messages.proofs.states.sending.Goals as goal

pub returns-then-pool-object : goal.returns-then-pool-object
returns-then-pool-object c =
    rw (eq-eqb c.args.pool c.args.object c.if-pool-object.true) c.say.ensures

pub returns : goal.returns
returns c =
    rw (ne_eqb c.args.pool c.args.object c.if-pool-object.false) c.say-2.ensures
