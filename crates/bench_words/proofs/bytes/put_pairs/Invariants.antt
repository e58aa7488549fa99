-- `bench_words::bytes::put_pairs` meets its contract. The loop's invariant: the run written so far is the bytes of the pairs passed. A turn's
-- store makes the run longer by one.
use Rattle.std.proofs.Common.{◌≡◌}
use Rattle.rules.specs.Bytes.{splice}
use Rattle.rules.specs.Repeat.{list_below}
use Rattle.bench_words.specs.Reading.{pair_at}
use Rattle.bench_words.proofs.bytes.put_pairs.Given as goal

abbrev pub invariant-loop-i : goal.invariant-loop-i
invariant-loop-i l = l.out ≡ splice l.at (list_below l.i (pair_at l.word)) l.initial.out
