-- `bench_words::split::word_at` meets its contract. The loop's invariant: `span` is where the word stands that the counter says.
use Rattle.std.proofs.Common.{◌≡◌}
use Rattle.bench_words.specs.Split.{word_at}
use Rattle.bench_words.proofs.split.word_at.Given as goal

abbrev pub invariant-loop : goal.invariant-loop
invariant-loop l = l.span ≡ word_at l.line l.counter
