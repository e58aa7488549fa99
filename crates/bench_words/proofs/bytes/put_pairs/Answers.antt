use Rattle.std.proofs.Common.{arith, ◌/◌, ◌≡◌, [], length, add-one}
use Rattle.rules.specs.Repeat.{list_below}
use Rattle.laws.proofs.Splices.{splice_more}
use Rattle.laws.proofs.Repeat.{length-list_below}
use Rattle.bench_words.specs.Reading.{pair_at}
use Rattle.bench_words.proofs.Pairs.{pair_is}
use Rattle.bench_words.proofs.bytes.put_pairs.Goals as goal

pub loop-i-preserved : goal.loop-i-preserved
unfolding list_below
loop-i-preserved c =
    let given = c.args in
    let i = c.loop-i.i in
    let said : c.pair.result ≡ pair_at given.word.now i =
    rw (c.pair.ensures, c.as_chunks.ensures.front) (pair_is (length given.word.now / 2) i given.word.now [] (omega arith)) in
    let run = list_below i (pair_at given.word.now) in
    rw (c.loop-i.invariant, said, add-one i)
    (splice_more given.at i run given.out.now (pair_at given.word.now i) (length-list_below i (pair_at given.word.now)) (omega arith))
