-- The number, the word, and an s but for one.
use borrow.Author.Rules.{rules}
use borrow.Author.Tests.{eq-eqb, ne_eqb}
use mathlib.Core.List.{append_assoc}
use Rattle.bench_say.specs.Form.{count_of}
use Rattle.bench_text.proofs.Writing.{then}
use Rattle.bench_say.proofs.form.count_of.Goals as goal

pub returns-then-n-eq1 : goal.returns-then-n-eq1
unfolding count_of
returns-then-n-eq1 c = rw (eq-eqb c.args.n 1 c.if-n-eq1.true) (search (rules, then))

pub returns : goal.returns
unfolding count_of
returns c = rw (ne_eqb c.args.n 1 c.if-n-eq1.false, ← append_assoc) (search (rules, then))
