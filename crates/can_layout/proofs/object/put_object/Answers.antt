-- Two runs, the head and the data right behind it, are one run: the object's bytes.
use Prim.Native.Nat.{◌+◌}
use mathlib.Core.Path.{◌≡◌, refl, ◌∙◌}
use native.Mathlib.Omega.{arith}
use lib.ListN.{length}
use Rattle.rules.specs.Bytes.{big_endian}
use Rattle.rules.specs.Can.{object_head, object_data, object_bytes}
use Rattle.laws.proofs.Splices.{splice_then}
use Rattle.can_layout.proofs.ObjectBytes.{wire_within}
use Rattle.can_layout.proofs.object.put_object.Goals as goal

pub put_data-requires : goal.put_data-requires
put_data-requires c =
    omega (arith, wire_within (length c.args.sdu.now) c.requires.1)

pub returns : goal.returns
unfolding object_bytes big_endian
returns c =
    let a = c.args in
    let n = length a.sdu.now in
    let head_is : c.head.result ≡ object_head a.identifier n a.handle =
    c.head.ensures ∙ rw (c.on_wire-wire.ensures.0, c.on_wire-wire.ensures.1) in
    splice_then a.at (a.at + 8) (object_head a.identifier n a.handle) (object_data a.padding a.sdu.now) a.ram.now
    (rw head_is at c.put_bytes.ensures) (rw c.on_wire-wire.ensures.0 at c.put_data.ensures) refl (omega (arith, c.requires))
