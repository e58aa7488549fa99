-- The version's low bytes are its two bytes, the high one first.
use native.Mathlib.Nat.{div-one}
use Rattle.rules.specs.Bytes.{big_endian}
use Rattle.can_writer.proofs.header.counted.Goals as goal

pub returns : goal.returns
unfolding big_endian
returns c = rw c.to_be_bytes-version.ensures (simp div-one)
