-- A part of the object's part of the RAM is a part of the RAM.
use Prim.Native.Nat.{◌*◌}
use mathlib.Core.Path.{◌∙◌}
use native.Mathlib.Omega.{arith}
use Rattle.laws.proofs.Splices.{part_part}
use Rattle.core_layout.proofs.head.handle_at.Goals as goal

pub returns : goal.returns
returns c =
    let a = c.args in
    c.number_2.ensures.0 ∙ rw (part_part 6 2 (a.size * a.object) a.size a.ram.now (omega arith))
