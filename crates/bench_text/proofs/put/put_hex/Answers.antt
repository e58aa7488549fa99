use Prim.Native.Nat.{◌<◌}
use mathlib.Core.List.{[], ◌∷◌}
use native.Mathlib.Omega.{arith}
use native.Mathlib.Numerals.{add-one}
use lib.ListN.{length, take, get_or}
use lib.Seq.{take-suc}
use Rattle.bench_text.specs.Put.{hex_of}
use Rattle.bench_text.proofs.Writing.{nothing, then, hex_of_more}
use Rattle.bench_text.proofs.put.put_hex.Goals as goal

pub loop-byte-init : goal.loop-byte-init
unfolding hex_of
loop-byte-init c = nothing c.args.at c.args.out.now

pub loop-byte-preserved : goal.loop-byte-preserved
loop-byte-preserved c =
    let turn = c.loop-byte in
    let i = turn.byte-index in
    let a = c.args in
    let bytes = a.bytes.now in
    let b = get_or bytes i 0 in
    let more : i < length bytes = omega arith in
    rw (add-one, take-suc bytes i 0 more, hex_of_more)
    (then a.at turn.end c.put_pair-end.result (hex_of (take i bytes)) (hex_of (b ∷ [])) a.out.now turn.invariant c.put_pair-end.ensures)
