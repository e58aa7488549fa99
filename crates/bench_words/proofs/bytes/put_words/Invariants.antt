-- `bench_words::bytes::put_words` meets its contract. The loop's invariant: the bytes said so far stand at the buffer's start, and with what
-- follows they are the whole.
use Rattle.std.proofs.Common.{◌-◌, length}
use Rattle.bench_words.proofs.Words.{Going}
use Rattle.bench_words.proofs.bytes.put_words.Given as goal

abbrev pub invariant-loop : goal.invariant-loop
invariant-loop l = Going l.text l.initial.out l.out l.at l.count (length l.text - l.counter)
