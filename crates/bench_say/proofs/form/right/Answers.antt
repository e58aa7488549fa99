-- Spaces, and the number.
use borrow.Author.Rules.{rules}
use Rattle.bench_say.specs.Form.{right}
use Rattle.bench_text.proofs.Writing.{then}
use Rattle.bench_say.proofs.form.right.Goals as goal

pub returns : goal.returns
unfolding right
returns c = rw (← c.digits.ensures, ← c.saturating_sub.ensures) (search (rules, then))
