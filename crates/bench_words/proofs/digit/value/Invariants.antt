-- `bench_words::digit::value` meets its contract. The loop's invariant: with the digits that are left, `value` comes to what all of them spell.
use Rattle.bench_words.proofs.Digits.{At}
use Rattle.bench_words.proofs.digit.value.Given as goal

abbrev pub invariant-loop-b : goal.invariant-loop-b
invariant-loop-b l = At l.base l.word l.value l.b-index
