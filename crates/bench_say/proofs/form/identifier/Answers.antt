-- The digits, and the marks.
use borrow.Author.Rules.{rules}
use Rattle.bench_say.specs.Form.{identifier}
use Rattle.bench_text.proofs.Writing.{then}
use Rattle.bench_say.proofs.form.identifier.Goals as goal

pub returns : goal.returns
unfolding identifier
returns c = rw (← c.word_in.ensures) (search (rules, then))
