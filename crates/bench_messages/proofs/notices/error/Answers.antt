-- `bench_messages::notices::error` meets its contract: each test picks its text.
use borrow.Author.Tests.{eq-eqb, ne_eqb}
use Rattle.bench_messages.proofs.notices.error.Goals as goal

pub returns-then-number-eq2 : goal.returns-then-number-eq2
returns-then-number-eq2 c =
    rw (eq-eqb c.args.number 2 c.if-number-eq2.true) c.say.ensures

pub returns-then-number-eq3 : goal.returns-then-number-eq3
returns-then-number-eq3 c =
    rw (ne_eqb c.args.number 2 c.if-number-eq2.false, eq-eqb c.args.number 3 c.if-number-eq3.true) c.say-then-number-eq3.ensures

pub returns-then-number-eq4 : goal.returns-then-number-eq4
returns-then-number-eq4 c =
    rw (ne_eqb c.args.number 2 c.if-number-eq2.false, ne_eqb c.args.number 3 c.if-number-eq3.false, eq-eqb c.args.number 4 c.if-number-eq4.true) c.say-then-number-eq4.ensures

pub returns-then-number-eq5 : goal.returns-then-number-eq5
returns-then-number-eq5 c =
    rw (ne_eqb c.args.number 2 c.if-number-eq2.false, ne_eqb c.args.number 3 c.if-number-eq3.false, ne_eqb c.args.number 4 c.if-number-eq4.false, eq-eqb c.args.number 5 c.if-number-eq5.true) c.say-then-number-eq5.ensures

pub returns-then-number-eq6 : goal.returns-then-number-eq6
returns-then-number-eq6 c =
    rw (ne_eqb c.args.number 2 c.if-number-eq2.false, ne_eqb c.args.number 3 c.if-number-eq3.false, ne_eqb c.args.number 4 c.if-number-eq4.false, ne_eqb c.args.number 5 c.if-number-eq5.false, eq-eqb c.args.number 6 c.if-number-eq6.true) c.say-then-number-eq6.ensures

pub returns-then-number-eq9 : goal.returns-then-number-eq9
returns-then-number-eq9 c =
    rw (ne_eqb c.args.number 2 c.if-number-eq2.false, ne_eqb c.args.number 3 c.if-number-eq3.false, ne_eqb c.args.number 4 c.if-number-eq4.false, ne_eqb c.args.number 5 c.if-number-eq5.false, ne_eqb c.args.number 6 c.if-number-eq6.false, eq-eqb c.args.number 9 c.if-number-eq9.true) c.say-then-number-eq9.ensures

pub returns : goal.returns
returns c =
    rw (ne_eqb c.args.number 2 c.if-number-eq2.false, ne_eqb c.args.number 3 c.if-number-eq3.false, ne_eqb c.args.number 4 c.if-number-eq4.false, ne_eqb c.args.number 5 c.if-number-eq5.false, ne_eqb c.args.number 6 c.if-number-eq6.false, ne_eqb c.args.number 9 c.if-number-eq9.false) c.say-2.ensures
