-- How a line of the plain style begins, and what stands between its parts.
use Rattle.std.specs.Prelude.{ℕ, Bool, cond, List, ◌++◌}
use Rattle.bench_words.specs.Text.{ascii}
use Rattle.bench_say.specs.Form.{hex_or_none}
use Rattle.bench_say.specs.Say.{said, five}

-- the number of a line
abbrev pub number : ℕ → List ℕ
number line = said "%6  " (five line 0 0 0 0)

-- what a line looks at
abbrev pub data_of : ℕ → ℕ → List ℕ
data_of line object = said "%6  data of object %0" (five line object 0 0 0)

abbrev pub show : ℕ → ℕ → List ℕ
show line object = said "%6  show object %0" (five line object 0 0 0)

abbrev pub no_object : List ℕ
no_object = said "there is no such object\n" (five 0 0 0 0 0)

abbrev pub state : ℕ → List ℕ
state line = said "%6  state" (five line 0 0 0 0)

-- a line that is not understood, and what was expected
abbrev pub not_understood : ℕ → List ℕ
not_understood line = said "%6  not understood: " (five line 0 0 0 0)

abbrev pub but_expected : List ℕ
but_expected = said "; expected " (five 0 0 0 0 0)

-- a word in quotation marks; its bytes in hexadecimal where they cannot be shown
abbrev pub quoted : List ℕ → Bool → List ℕ
quoted word printable = cond printable ((ascii " \"" ++ word) ++ ascii "\"") (ascii ", bytes " ++ hex_or_none word)

-- what may have been meant by a line that begins with a byte order mark, or has a CR
abbrev pub order_mark : List ℕ
order_mark = said " (a byte order mark?)" (five 0 0 0 0 0)

abbrev pub lone_cr : List ℕ
lone_cr = said " (lines that end in CR alone?)" (five 0 0 0 0 0)

-- what changes the bench alone: the configuration in words, the sheet and the memory that are lent
abbrev pub next_controllers : ℕ → ℕ → List ℕ
next_controllers line n = said "%6  %c in the next init\n" (five line n 0 0 0)

abbrev pub next_object : ℕ → ℕ → List ℕ
next_object line object = said "%6  object %0 of the next init\n" (five line object 0 0 0)

abbrev pub sheet : ℕ → ℕ → List ℕ
sheet line words = said "%6  sheet of %w from here on\n" (five line words 0 0 0)

abbrev pub memory : ℕ → ℕ → List ℕ
memory line bytes = said "%6  memory of %b from here on\n" (five line bytes 0 0 0)
