-- `bench_messages::lines::marked` meets its contract: the word between two marks.
use Rattle.bench_text.proofs.Writing.{then}
use Rattle.bench_words.specs.Text.{ascii}
use mathlib.Core.List.{◌++◌}
use Rattle.bench_messages.proofs.lines.marked.Goals as goal

pub returns : goal.returns
returns c =
    let a = c.args in
    let two = then a.at c.put-start.result c.put-end.result (ascii " \"") a.word.now a.out.now c.put-start.ensures c.put-end.ensures in
    then a.at c.put-end.result c.put.result (ascii " \"" ++ a.word.now) (ascii "\"") a.out.now two c.put.ensures
