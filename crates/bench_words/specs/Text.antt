-- Texts as the code has them: the bytes of ASCII.
use Prim.Native.String.{String}
use Rattle.std.specs.Prelude.{ℕ, List, codes}

-- the bytes of a text
abbrev pub ascii : String → List ℕ
ascii s = codes s
