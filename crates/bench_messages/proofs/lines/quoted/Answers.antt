-- `bench_messages::lines::quoted` meets its contract: the test picks the case.
use Rattle.bench_text.proofs.Writing.{then}
use Rattle.bench_words.specs.Text.{ascii}
use Rattle.bench_say.specs.Form.{hex_or_none}
use Rattle.bench_messages.proofs.lines.quoted.Goals as goal

pub returns-then-printable : goal.returns-then-printable
returns-then-printable c =
    rw c.if-printable.true c.marked.ensures

pub returns : goal.returns
returns c =
    let a = c.args in
    rw c.if-printable.false
    (then a.at c.put-end.result c.hex_or_none.result (ascii ", bytes ") (hex_or_none a.word.now) a.out.now c.put-end.ensures c.hex_or_none.ensures)
