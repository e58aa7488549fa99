-- `bench_messages::notices::change` meets its contract: each test picks its text.
use borrow.Author.Tests.{eq-eqb, ne_eqb}
use Rattle.bench_messages.proofs.notices.change.Goals as goal

pub returns-then-kind-eq3 : goal.returns-then-kind-eq3
returns-then-kind-eq3 c =
    rw (eq-eqb c.args.kind 3 c.if-kind-eq3.true) c.say.ensures

pub returns-then-kind-eq4 : goal.returns-then-kind-eq4
returns-then-kind-eq4 c =
    rw (ne_eqb c.args.kind 3 c.if-kind-eq3.false, eq-eqb c.args.kind 4 c.if-kind-eq4.true) c.say-then-kind-eq4.ensures

pub returns-then-kind-eq6 : goal.returns-then-kind-eq6
returns-then-kind-eq6 c =
    rw (ne_eqb c.args.kind 3 c.if-kind-eq3.false, ne_eqb c.args.kind 4 c.if-kind-eq4.false, eq-eqb c.args.kind 6 c.if-kind-eq6.true) c.say-then-kind-eq6.ensures

pub returns : goal.returns
returns c =
    rw (ne_eqb c.args.kind 3 c.if-kind-eq3.false, ne_eqb c.args.kind 4 c.if-kind-eq4.false, ne_eqb c.args.kind 6 c.if-kind-eq6.false) c.say-2.ensures
