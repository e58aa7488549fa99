-- Text in a buffer: each call writes behind what stands there already, as much as fits.
use Rattle.std.specs.Prelude.{ℕ, zero, suc, ◌+◌, ◌-◌, ◌/◌, ◌%◌, min, max, ◌≡◌, Bool, cond, ◌&&◌, List, [], ◌∷◌, ◌++◌, length, take, eqb, leb}
use Rattle.rules.specs.Bytes.{splice}
use Rattle.io.specs.Digits.{hex_digit_ascii}

-- whether so many bytes fit from a position on
abbrev pub has_room : ℕ → ℕ → ℕ → Bool
has_room size at n = leb (at + n) size

-- what fits of a text from a position on
abbrev pub fitting : ℕ → ℕ → List ℕ → List ℕ
fitting size at text = take (size - at) text

-- a text is written from position at, as much of it as fits; r is the position behind it
pub record Put (at : ℕ) (text before after : List ℕ) (r : ℕ) : Type 0 where
  pub text_is : after ≡ splice at (fitting (length before) at text) before
  pub end_is : r ≡ at + length (fitting (length before) at text)

-- the digits of n in a base, at least so many and else no more than it takes; the first number counts down the digits
unfoldable pub numeral_within : ℕ → ℕ → ℕ → ℕ → List ℕ
numeral_within zero base least n = []
numeral_within (suc k) base least n =
    cond (eqb least 0 && eqb n 0) [] (numeral_within k base (least - 1) (n / base) ++ (hex_digit_ascii (n % base) ∷ []))

abbrev pub numeral : ℕ → ℕ → ℕ → List ℕ
numeral base least n = numeral_within (least + n) base least n

-- a number in decimal, and in hexadecimal with at least so many digits, 1 to 16
abbrev pub decimal : ℕ → List ℕ
decimal n = numeral 10 1 n

abbrev pub hexadecimal : ℕ → ℕ → List ℕ
hexadecimal width n = numeral 16 (min (max width 1) 16) n

-- two hex digits for each byte, the high one first
unfoldable pub hex_of : List ℕ → List ℕ
hex_of [] = []
hex_of (b ∷ bs) = hex_digit_ascii (b / 16) ∷ hex_digit_ascii (b % 16) ∷ hex_of bs
