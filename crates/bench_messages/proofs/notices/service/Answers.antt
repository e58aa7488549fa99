-- `bench_messages::notices::service` meets its contract: each test picks its text.
use borrow.Author.Tests.{eq-eqb, ne_eqb}
use Rattle.bench_messages.proofs.notices.service.Goals as goal

pub returns-then-number-eq0 : goal.returns-then-number-eq0
returns-then-number-eq0 c =
    let number = c.args.number in
    rw (eq-eqb number 0 c.if-number-eq0.true) c.say.ensures

pub returns-then-number-eq3 : goal.returns-then-number-eq3
returns-then-number-eq3 c =
    let number = c.args.number in
    rw (ne_eqb number 0 c.if-number-eq0.false, eq-eqb number 3 c.if-number-eq3.true) c.say-then-number-eq3.ensures

pub returns-then-number-eq6 : goal.returns-then-number-eq6
returns-then-number-eq6 c =
    let number = c.args.number in
    rw (ne_eqb number 0 c.if-number-eq0.false, ne_eqb number 3 c.if-number-eq3.false, eq-eqb number 6 c.if-number-eq6.true) c.say-then-number-eq6.ensures

pub returns-then-number-eq16 : goal.returns-then-number-eq16
returns-then-number-eq16 c =
    let number = c.args.number in
    rw (ne_eqb number 0 c.if-number-eq0.false, ne_eqb number 3 c.if-number-eq3.false, ne_eqb number 6 c.if-number-eq6.false, eq-eqb number 16 c.if-number-eq16.true) c.say-then-number-eq16.ensures

pub returns : goal.returns
returns c =
    let number = c.args.number in
    rw (ne_eqb number 0 c.if-number-eq0.false, ne_eqb number 3 c.if-number-eq3.false, ne_eqb number 6 c.if-number-eq6.false, ne_eqb number 16 c.if-number-eq16.false) c.question.ensures
