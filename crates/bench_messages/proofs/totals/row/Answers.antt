-- `bench_messages::totals::row` meets its contract: the text is that of the row.
use Rattle.bench_messages.proofs.Tables.{row_found}
use borrow.Author.Tests.{lt-ltb, le-ltb}
use Rattle.bench_text.proofs.Writing.{nothing}
use Rattle.bench_messages.proofs.totals.row.Goals as goal

pub returns-then-what-ge-ROWS : goal.returns-then-what-ge-ROWS
returns-then-what-ge-ROWS c =
    let a = c.args in
    rw (le-ltb a.what 11 c.if-what-ge-ROWS.true) (nothing a.at a.out.now)

pub returns : goal.returns
returns c =
    let a = c.args in
    rw (lt-ltb a.what 11 c.if-what-ge-ROWS.false, ← row_found a.what c.if-what-ge-ROWS.false) c.say_one.ensures
