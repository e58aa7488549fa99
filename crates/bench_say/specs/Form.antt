-- The forms of a number in a text.
use Rattle.std.specs.Prelude.{ℕ, ◌-◌, ◌%◌, ◌^◌, max, Bool, cond, ◌||◌, List, [], ◌++◌, length, replicate, eqb, leb}
use Prim.Native.Char.{code}
use Rattle.rules.specs.Can.{is_extended, is_fd}
use Rattle.bench_words.specs.Text.{ascii}
use Rattle.bench_text.specs.Put.{decimal, hexadecimal, hex_of}

-- bytes as hex digits, - for none
abbrev pub hex_or_none : List ℕ → List ℕ
hex_or_none bytes = cond (eqb (length bytes) 0) (ascii "-") (hex_of bytes)

abbrev pub spaces : ℕ → List ℕ
spaces n = replicate n (code " ")

-- a number at the right of so many columns
unfoldable pub right : ℕ → ℕ → List ℕ
right width n = spaces (width - length (decimal n)) ++ decimal n

-- a text at the left of so many columns, with two spaces behind it at least
abbrev pub gap : ℕ → ℕ → ℕ
gap width used = max 2 (width - used)

abbrev pub column : ℕ → List ℕ → List ℕ
column width text = text ++ spaces (gap width (length text))

-- the columns of a line's number, and of an identifier
abbrev pub line_width : ℕ
line_width = 9

abbrev pub identifier_width : ℕ
identifier_width = 23

unfoldable pub left : ℕ → List ℕ
left n = column line_width (decimal n)

-- so many of something: the word takes an s, but for one
unfoldable pub count_of : List ℕ → ℕ → List ℕ
count_of word n = decimal n ++ cond (eqb n 1) word (word ++ ascii "s")

-- a mode by its name
unfoldable pub mode_name : ℕ → List ℕ
mode_name n =
    cond (eqb n 0) (ascii "UNINIT")
    (cond (eqb n 1) (ascii "STARTED")
    (cond (eqb n 2) (ascii "STOPPED")
    (cond (eqb n 3) (ascii "SLEEP") (ascii "mode " ++ decimal n))))

-- an error state by its name
unfoldable pub error_state_name : ℕ → List ℕ
error_state_name n = cond (eqb n 0) (ascii "error active") (cond (eqb n 1) (ascii "error passive") (ascii "bus-off"))

-- an error count as the driver tells it: 255 stands for every larger one too
unfoldable pub told_count : ℕ → List ℕ
told_count n = cond (leb 255 n) (ascii "255 or more") (decimal n)

-- what the marks of an identifier say
abbrev pub marks : ℕ → List ℕ
marks identifier =
    cond (is_extended identifier) (cond (is_fd identifier) (ascii " extended FD") (ascii " extended"))
    (cond (is_fd identifier) (ascii " FD") [])

-- an identifier as it is typed, with at least three digits, and its marks in words
unfoldable pub identifier : ℕ → List ℕ
identifier n = hexadecimal 3 n ++ marks (n % 2 ^ 32)

-- the same in its column
unfoldable pub identifier_column : ℕ → List ℕ
identifier_column n = column identifier_width (identifier n)

-- b, w, c and o count bytes, words, controllers and objects
abbrev pub is_unit : ℕ → Bool
is_unit sign = eqb sign (code "b") || eqb sign (code "w") || eqb sign (code "c") || eqb sign (code "o")

abbrev pub unit : ℕ → List ℕ
unit sign =
    cond (eqb sign (code "b")) (ascii " byte")
    (cond (eqb sign (code "w")) (ascii " word") (cond (eqb sign (code "c")) (ascii " controller") (ascii " object")))

-- h and H ask for two and eight digits at least, and any other sign for three
abbrev pub hex_digits : ℕ → ℕ
hex_digits sign = cond (eqb sign (code "h")) 2 (cond (eqb sign (code "H")) 8 3)

-- l, m, e, n, i and I: a line's number, a mode, an error state, an error count, an identifier and one in its column; any other sign: hexadecimal
unfoldable pub named : ℕ → ℕ → List ℕ
named sign n =
    cond (eqb sign (code "l")) (left n)
    (cond (eqb sign (code "m")) (mode_name n)
    (cond (eqb sign (code "e")) (error_state_name n)
    (cond (eqb sign (code "n")) (told_count n)
    (cond (eqb sign (code "i")) (identifier n)
    (cond (eqb sign (code "I")) (identifier_column n) (hexadecimal (hex_digits sign) n))))))

-- the form that a sign says: 0 to 9 is a number of columns
unfoldable pub formed : ℕ → ℕ → List ℕ
formed sign n = cond (leb sign (code "9")) (right (sign - code "0") n) (cond (is_unit sign) (count_of (unit sign) n) (named sign n))
