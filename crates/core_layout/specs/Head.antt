-- The head of an object, which is the same for all kinds of frame.
use Rattle.std.specs.Prelude.{ℕ, Bool, cond}

-- "identifier word (4 bytes)", the length and what goes with it (2), "handle (2)"
abbrev pub head_size : ℕ
head_size = 8

-- the length has two bytes, or one
abbrev pub length_bytes : Bool → ℕ
length_bytes two = cond two 2 1
