-- The number, and spaces to its column.
use borrow.Author.Rules.{rules}
use Rattle.bench_say.specs.Form.{left}
use Rattle.bench_say.proofs.Columns.{in_column}
use Rattle.bench_say.proofs.form.left.Goals as goal

pub returns : goal.returns
unfolding left
returns c = search (rules, in_column)
