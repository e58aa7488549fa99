-- The head of an object's bytes, one layout for all kinds of frame: "identifier word (4 bytes)" first, the length from byte 4 on,
-- "handle (2)" in bytes 6 and 7. "Handles, identifiers and lengths in records are read from the memory lent to that call."
use Rattle.std.specs.Prelude.{ℕ, List}
use Rattle.rules.specs.Bytes.{part, number}

abbrev pub identifier_in : List ℕ → ℕ
identifier_in object = number (part 0 4 object)

-- the length has so many bytes
abbrev pub length_in : ℕ → List ℕ → ℕ
length_in size object = number (part 4 size object)

abbrev pub handle_in : List ℕ → ℕ
handle_in object = number (part 6 2 object)
