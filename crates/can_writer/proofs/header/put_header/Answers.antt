-- Two runs, the fixed string and the rest right behind it, are one run: the header.
use mathlib.Core.Path.{refl}
use mathlib.Core.List.{[], ◌∷◌, ◌++◌}
use native.Mathlib.Omega.{arith}
use Rattle.rules.specs.Bytes.{big_endian}
use Rattle.rules.specs.Can.{header}
use Rattle.laws.proofs.Splices.{splice_then}
use Rattle.can_writer.proofs.header.put_header.Goals as goal

pub returns : goal.returns
returns c =
    let a = c.args in
    splice_then 0 3 header (big_endian 2 a.version ++ (a.controller_count ∷ a.object_count ∷ 0 ∷ [])) a.buffer.now c.put_bytes.ensures
    (rw c.counted.ensures at c.put_bytes-2.ensures) refl (omega (arith, c.requires))
