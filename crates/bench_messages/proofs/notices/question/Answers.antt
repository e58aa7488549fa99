-- `bench_messages::notices::question` meets its contract: each test picks its text.
use borrow.Author.Tests.{eq-eqb, ne_eqb}
use Rattle.bench_messages.proofs.notices.question.Goals as goal

pub returns-then-number-eq18 : goal.returns-then-number-eq18
returns-then-number-eq18 c =
    let number = c.args.number in
    rw (eq-eqb number 18 c.if-number-eq18.true) c.say.ensures

pub returns-then-number-eq17 : goal.returns-then-number-eq17
returns-then-number-eq17 c =
    let number = c.args.number in
    rw (ne_eqb number 18 c.if-number-eq18.false, eq-eqb number 17 c.if-number-eq17.true) c.say-then-number-eq17.ensures

pub returns-then-number-eq48 : goal.returns-then-number-eq48
returns-then-number-eq48 c =
    let number = c.args.number in
    rw (ne_eqb number 18 c.if-number-eq18.false, ne_eqb number 17 c.if-number-eq17.false, eq-eqb number 48 c.if-number-eq48.true) c.say-then-number-eq48.ensures

pub returns-then-number-eq49 : goal.returns-then-number-eq49
returns-then-number-eq49 c =
    let number = c.args.number in
    rw (ne_eqb number 18 c.if-number-eq18.false, ne_eqb number 17 c.if-number-eq17.false, ne_eqb number 48 c.if-number-eq48.false, eq-eqb number 49 c.if-number-eq49.true) c.say-then-number-eq49.ensures

pub returns : goal.returns
returns c =
    let number = c.args.number in
    rw (ne_eqb number 18 c.if-number-eq18.false, ne_eqb number 17 c.if-number-eq17.false, ne_eqb number 48 c.if-number-eq48.false, ne_eqb number 49 c.if-number-eq49.false) c.say-2.ensures
