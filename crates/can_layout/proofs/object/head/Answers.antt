-- The bytes are the definition's, the last with no division.
use native.Mathlib.Nat.{div-one}
use Rattle.rules.specs.Bytes.{big_endian}
use Rattle.can_layout.proofs.object.head.Goals as goal

pub returns : goal.returns
unfolding big_endian
returns c = rw (c.to_be_bytes.ensures, c.to_be_bytes-2.ensures) (simp div-one)
