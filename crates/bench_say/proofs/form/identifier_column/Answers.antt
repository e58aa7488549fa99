-- The identifier, and spaces to its column.
use borrow.Author.Rules.{rules}
use Rattle.bench_say.specs.Form.{identifier_column}
use Rattle.bench_say.proofs.Columns.{in_column}
use Rattle.bench_say.proofs.form.identifier_column.Goals as goal

pub returns : goal.returns
unfolding identifier_column
returns c = search (rules, in_column)
