-- `bench_messages::frames::data` meets its contract: the word, the data, and the line's end.
use Rattle.bench_text.proofs.Writing.{then}
use Rattle.bench_words.specs.Text.{ascii}
use mathlib.Core.List.{◌++◌}
use Rattle.bench_say.specs.Form.{hex_or_none}
use Rattle.bench_messages.proofs.frames.data.Goals as goal

pub returns : goal.returns
returns c =
    let a = c.args in
    let two = then a.at c.put-word.result c.hex_or_none-end.result (ascii "data ") (hex_or_none a.bytes.now) a.out.now c.put-word.ensures c.hex_or_none-end.ensures in
    then a.at c.hex_or_none-end.result c.put.result (ascii "data " ++ hex_or_none a.bytes.now) (ascii "\n") a.out.now two c.put.ensures
