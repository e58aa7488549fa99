-- Texts in a row, as a table of the code has them: with a bar behind each but the last.
use Prim.Native.Nat.{ℕ}
use Prim.Native.Char.{code}
use Prim.Native.String.{String}
use mathlib.Core.List.{List, [], ◌∷◌, ◌++◌}
use Rattle.bench_words.specs.Text.{ascii}

abbrev pub joined : List String → List ℕ
joined [] = []
joined (t ∷ []) = ascii t
joined (t ∷ (u ∷ ts)) = ascii t ++ (code "|" ∷ joined (u ∷ ts))
