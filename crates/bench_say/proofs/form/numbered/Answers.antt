-- The word, and the number.
use borrow.Author.Rules.{rules}
use Rattle.bench_text.proofs.Writing.{then}
use Rattle.bench_say.proofs.form.numbered.Goals as goal

pub returns : goal.returns
returns c = search (rules, then)
