-- Texts with holes: % and a sign take the next of the numbers, in the form that the sign says.
use Rattle.std.specs.Prelude.{ℕ, cond, List, [], ◌∷◌, ◌++◌, drop, get_or, eqb}
use Prim.Native.Char.{code}
use Prim.Native.String.{String}
use Rattle.bench_words.specs.Text.{ascii}
use Rattle.bench_say.specs.Form.{formed}

-- the text from a byte on: a % and the sign behind it take the next of the numbers, in the form that the sign says, and any other byte is
-- itself; behind the last number each is 0
unfoldable pub filled : List ℕ → List ℕ → List ℕ
filled [] numbers = []
filled (b ∷ []) numbers = cond (eqb b (code "%")) [] (b ∷ [])
filled (b ∷ (sign ∷ text)) numbers =
    cond (eqb b (code "%")) (formed sign (get_or numbers 0 0) ++ filled text (drop 1 numbers)) (b ∷ filled (sign ∷ text) numbers)

-- a text with its numbers
abbrev pub said_of : List ℕ → List ℕ → List ℕ
said_of text numbers = filled text numbers

abbrev pub said : String → List ℕ → List ℕ
said text numbers = said_of (ascii text) numbers

-- the numbers of a text, of which it has at most five
abbrev pub five : ℕ → ℕ → ℕ → ℕ → ℕ → List ℕ
five a b c d e = a ∷ b ∷ c ∷ d ∷ e ∷ []
