-- A part of the object's part of the RAM is a part of the RAM.
use Prim.Native.Nat.{◌*◌}
use mathlib.Core.Path.{◌∙◌}
use native.Mathlib.Omega.{arith}
use Rattle.laws.proofs.Splices.{part_part}
use Rattle.core_layout.proofs.head.length_at.Goals as goal

pub returns-then-two_bytes : goal.returns-then-two_bytes
returns-then-two_bytes c =
    let a = c.args in
    c.number_2.ensures.0 ∙ rw (c.if-two_bytes.true, part_part 4 2 (a.size * a.object) a.size a.ram.now (omega arith))

pub returns-else-two_bytes : goal.returns-else-two_bytes
returns-else-two_bytes c =
    let a = c.args in
    c.byte.ensures ∙ rw (c.if-two_bytes.false, part_part 4 1 (a.size * a.object) a.size a.ram.now (omega arith))
