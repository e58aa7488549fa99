-- The part that is filled has count elements, and stands over what was there.
use Prim.Native.Nat.{◌+◌, ◌-◌}
use mathlib.Core.Path.{◌≡◌}
use native.Mathlib.Omega.{arith}
use lib.ListN.{length, take, drop, length-replicate, length-take, length-drop}
use lib.Seq.{drop-drop}
use Rattle.laws.proofs.Splices.{splice_is}
use Rattle.core_layout.proofs.bytes.fill.Goals as goal

pub returns : goal.returns
returns c =
    let a = c.args in
    let part : a.at + a.count - a.at ≡ a.count = omega arith in
    let long : length (take a.count (drop a.at a.ram.now)) ≡ a.count = simp (length-take, length-drop) (omega arith) in
    let filled = rw (part, long) at (c.fill.ensures.after (λ y same. same)) in
    rw (filled, part, splice_is, length-replicate, drop-drop)
