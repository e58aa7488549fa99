-- The library's bytes of a number, the highest first, are those of the rules.
use Prim.Native.Nat.{ℕ}
use native.Mathlib.Nat.{div-one}
use mathlib.Core.Path.{◌≡◌}
use Rattle.std.specs.Int.{w32, to_be_bytes}
use Rattle.rules.specs.Bytes.{big_endian}

pub bytes_4 : (n : ℕ) → to_be_bytes w32 n ≡ big_endian 4 n
unfolding big_endian
bytes_4 n = simp div-one
