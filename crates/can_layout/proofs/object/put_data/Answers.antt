-- Three runs, each right behind the last, are one run.
use Prim.Native.Nat.{◌+◌, ◌-◌}
use mathlib.Core.Path.{refl}
use mathlib.Core.List.{◌++◌, append_assoc}
use native.Mathlib.Omega.{arith}
use lib.ListN.{length, replicate, length-append, length-replicate}
use Rattle.rules.specs.Can.{longest_fd}
use Rattle.laws.proofs.Splices.{splice_then}
use Rattle.can_layout.proofs.object.put_data.Goals as goal

pub returns : goal.returns
returns c =
    let a = c.args in
    let sdu = a.sdu.now in
    let ram = a.ram.now in
    let padding = replicate (a.wire - length sdu) a.padding in
    let padded = splice_then a.at (a.at + length sdu) sdu padding ram c.put_bytes.ensures c.fill.ensures refl (omega (arith, c.requires)) in
    rw append_assoc at
    (splice_then a.at (a.at + a.wire) (sdu ++ padding) (replicate (longest_fd - a.wire) 0) ram padded c.fill-2.ensures
    (simp (length-append, length-replicate) (omega (arith, c.requires))) (omega (arith, c.requires)))
