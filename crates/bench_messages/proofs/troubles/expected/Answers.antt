-- `bench_messages::troubles::expected` meets its contract: the trouble is with a whole command, or with a word.
use Rattle.bench_messages.proofs.Tables.{word_found}
use mathlib.Core.Path.{sym, ap, ◌∙◌}
use lib.ListN.{length}
use borrow.Author.Tests.{eq-eqb, ne_eqb}
use Rattle.bench_words.specs.Text.{ascii}
use Rattle.bench_messages.specs.Troubles.{word_text}
use Rattle.bench_messages.proofs.troubles.expected.Goals as goal

pub returns-then-word-eq0 : goal.returns-then-word-eq0
returns-then-word-eq0 c =
    let a = c.args in
    let said = rw (c.place.ensures, word_found a.trouble) at c.piece-word.ensures in
    rw (eq-eqb (length (ascii (word_text a.trouble))) 0 (ap length (sym said) ∙ c.if-word-eq0.true), ← c.command_of.ensures) c.usage.ensures

pub returns : goal.returns
returns c =
    let a = c.args in
    let said = rw (c.place.ensures, word_found a.trouble) at c.piece-word.ensures in
    rw (ne_eqb (length (ascii (word_text a.trouble))) 0 (λ e. c.if-word-eq0.false (ap length said ∙ e))) (rw said at c.put.ensures)
