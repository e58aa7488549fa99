-- Numbers, identifiers and bytes as words.
use Rattle.std.specs.Prelude.{ℕ, zero, suc, ◌+◌, ◌*◌, ◌-◌, ◌/◌, ◌%◌, ◌^◌, ◌≡◌, Bool, not, cond, ◌&&◌, List, [], ◌++◌, length, take, drop, map, get_or, eqb, ltb, leb, bytes_eq, codes, Option, Some, None, Result, Ok, Err, is_err}
use Rattle.std.specs.Int.Digits.{number_from_digits}
use Rattle.std.specs.List.{list_all}
use Rattle.rules.specs.Bytes.{splice}
use Rattle.rules.specs.Repeat.{list_below}
use Rattle.bench_words.specs.Split.{next_word, spanned, is_missing, first}
use Rattle.bench_words.specs.declared.reading.Trouble.{Trouble}
use Rattle.bench_words.specs.declared.reading.Trouble.TheVariants.{LineTooLong, NotANumber, NumberTooLarge, NotAnIdentifier, IdentifierTooLong, NotHexDigits, OddDigits, NotOneByte, NotAMode}

-- what is read on behind a word that can be read, or the trouble with the word
abbrev pub with_value : {A B : Type 0} → Result A Trouble → (A → Result B Trouble) → Result B Trouble
with_value (Ok x) on = on x
with_value (Err t) on = Err t

-- the value of a digit, 0 to 9, a to f or A to F; 16 for any other byte
unfoldable pub digit : ℕ → ℕ
digit b =
    cond (leb 48 b && leb b 57) (b - 48)
    (cond (leb 97 b && leb b 102) (b - 97 + 10)
    (cond (leb 65 b && leb b 70) (b - 65 + 10) 16))

-- digits of the base, at least one, and nothing else
unfoldable pub all_digits : ℕ → List ℕ → Bool
all_digits base w = not (eqb (length w) 0) && list_all (λ b. ltb (digit b) base) w

-- the value that they spell, the highest first
unfoldable pub value : ℕ → List ℕ → ℕ
value base w = number_from_digits base (map digit w)

-- 0x in front
abbrev pub is_prefixed : List ℕ → Bool
is_prefixed w = bytes_eq (take 2 w) (codes "0x")

-- what follows 0x, the whole word where it is missing
abbrev pub unprefixed : List ℕ → List ℕ
unprefixed w = cond (is_prefixed w) (drop 2 w) w

abbrev pub base_of : List ℕ → ℕ
base_of w = cond (is_prefixed w) 16 10

-- numbers are decimal, or hexadecimal after 0x, and go up to this one
abbrev pub largest : ℕ
largest = 2 ^ 32 - 1

abbrev pub sayable : ℕ → Option ℕ
sayable n = cond (ltb largest n) None (Some n)

-- a number; bad is the trouble with a word that is none
unfoldable pub number_or : Trouble → List ℕ → Result ℕ Trouble
number_or bad w =
    cond (not (all_digits (base_of w) (unprefixed w))) (Err bad)
    (cond (ltb largest (value (base_of w) (unprefixed w))) (Err NumberTooLarge) (Ok (value (base_of w) (unprefixed w))))

abbrev pub number_of : List ℕ → Result ℕ Trouble
number_of w = number_or NotANumber w

-- identifiers are hexadecimal, with or without 0x, and have up to so many digits
abbrev pub identifier_digits : ℕ
identifier_digits = 8

unfoldable pub identifier_of : List ℕ → Result ℕ Trouble
identifier_of w =
    cond (not (all_digits 16 (unprefixed w))) (Err NotAnIdentifier)
    (cond (ltb identifier_digits (length (unprefixed w))) (Err IdentifierTooLong) (Ok (value 16 (unprefixed w))))

-- bytes are hexadecimal digits in pairs: the byte that two digits say
unfoldable pub pair : ℕ → ℕ → ℕ
pair high low = (digit high * 16 + digit low) % 256

-- pair i is digits 2i and 2i + 1
abbrev pub pair_at : List ℕ → ℕ → ℕ
pair_at w i = pair (get_or w (2 * i) 0) (get_or w (2 * i + 1) 0)

unfoldable pub hex_pairs : List ℕ → List ℕ
hex_pairs w = list_below (length w / 2) (pair_at w)

-- how many bytes a word says
unfoldable pub byte_count_of : List ℕ → Result ℕ Trouble
byte_count_of w =
    cond (not (all_digits 16 w)) (Err NotHexDigits)
    (cond (not (eqb (length w % 2) 0)) (Err OddDigits) (Ok (length w / 2)))

-- bytes may stand in several words: how many the words from a position on say, behind those said so far, and the bytes themselves; a word
-- that can't be read ends them. The number counts down the words, of which a text has no more than bytes.
unfoldable pub bytes_from : ℕ → List ℕ → ℕ → List ℕ → Result ℕ Trouble × List ℕ
bytes_from zero text at bytes = (Ok (length bytes), bytes)
bytes_from (suc words) text at bytes =
    cond (eqb (length (spanned (next_word text at) text)) 0) (Ok (length bytes), bytes)
    (cond (is_err (byte_count_of (spanned (next_word text at) text))) (byte_count_of (spanned (next_word text at) text), bytes)
    (bytes_from words text (next_word text at).end (bytes ++ hex_pairs (spanned (next_word text at) text))))

-- the word - alone stands for no bytes
abbrev pub is_none : List ℕ → Bool
is_none text = bytes_eq (first text) (codes "-") && is_missing 1 text

-- the most bytes of a line
abbrev pub longest_line : ℕ
longest_line = 8192

-- the bytes that a text says
unfoldable pub bytes_of : List ℕ → Result ℕ Trouble × List ℕ
bytes_of text =
    cond (ltb longest_line (length text)) (Err LineTooLong, [])
    (cond (is_none text) (Ok 0, []) (bytes_from (length text) text 0 []))

-- what reading bytes owes: the count, and the bytes at the start of the buffer; whatever they do not cover keeps its value
pub record BytesRead (said : Result ℕ Trouble × List ℕ) (before after : List ℕ) (r : Result ℕ Trouble) : Type 0 where
  pub count_is : r ≡ said.0
  pub bytes_are : after ≡ splice 0 said.1 before

-- one byte, of two digits
unfoldable pub one_byte_of : List ℕ → Result ℕ Trouble
one_byte_of w =
    cond (not (all_digits 16 w)) (Err NotHexDigits)
    (cond (not (eqb (length w) 2)) (Err NotOneByte) (Ok (pair_at w 0)))

-- a number with a limit of its own
abbrev pub limited_to : ℕ → Trouble → Result ℕ Trouble → Result ℕ Trouble
limited_to limit trouble number = with_value number (λ n. cond (ltb limit n) (Err trouble) (Ok n))

-- the largest handle, words of a sheet, bytes of a memory and room for a configuration that a line may ask for
abbrev pub largest_handle : ℕ
largest_handle = 65535

abbrev pub largest_sheet : ℕ
largest_sheet = 4096

abbrev pub largest_memory : ℕ
largest_memory = 16384

abbrev pub largest_room : ℕ
largest_room = 4096

-- the largest number that fits a byte
abbrev pub largest_byte : ℕ
largest_byte = 255

-- a mode is STARTED, STOPPED, SLEEP or a number
unfoldable pub mode_of : List ℕ → Result ℕ Trouble
mode_of w =
    cond (bytes_eq w (codes "STARTED")) (Ok 1)
    (cond (bytes_eq w (codes "STOPPED")) (Ok 2)
    (cond (bytes_eq w (codes "SLEEP")) (Ok 3) (number_or NotAMode w)))
