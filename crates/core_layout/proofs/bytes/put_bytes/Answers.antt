use Prim.Native.Nat.{ℕ, ◌+◌}
use mathlib.Core.List.{List}
use mathlib.Core.Path.{◌≡◌, ap, sym, ◌∙◌}
use native.Mathlib.Omega.{arith}
use lib.ListN.{take, get_or, set}
use lib.Seq.{take_all}
use Rattle.laws.proofs.Splices.{splice_nil, copy_more}
use Rattle.core_layout.proofs.bytes.put_bytes.Goals as goal

pub loop-i-init : goal.loop-i-init
loop-i-init c = sym (splice_nil c.args.at c.args.ram.now)

pub loop-i-preserved : goal.loop-i-preserved
loop-i-preserved c =
    let i = c.loop-i.i in
    let a = c.args in
    ap (λ (l : List ℕ). set l (a.at + i) (get_or a.source.now i 0)) c.loop-i.invariant
    ∙ copy_more a.at i a.source.now a.ram.now 0 (omega arith) (omega arith)

pub returns : goal.returns
returns c =
    let s = c.args.source.now in
    let all : take c.loop-i.i s ≡ s = take_all c.loop-i.i s (omega arith) in
    rw all at c.loop-i.invariant
