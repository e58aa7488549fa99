-- `bench_replies::refusals::verdict` meets its contract: the reason's number picks the word.
use borrow.Author.Tests.{eq-eqb, ne_eqb}
use Rattle.bench_replies.proofs.refusals.verdict.Goals as goal

pub returns-then-number-eq-BUSY : goal.returns-then-number-eq-BUSY
returns-then-number-eq-BUSY c =
    rw (← c.reason-number.ensures, eq-eqb c.reason-number.result 36 c.if-number-eq-BUSY.true) c.say.ensures

pub returns : goal.returns
returns c =
    rw (← c.reason-number.ensures, ne_eqb c.reason-number.result 36 c.if-number-eq-BUSY.false) c.say-2.ensures
