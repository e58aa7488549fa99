-- Frames in words.
use Rattle.std.specs.Prelude.{ℕ, Bool, cond, List, ◌++◌}
use Rattle.bench_words.specs.Text.{ascii}
use Rattle.bench_say.specs.Form.{hex_or_none}
use Rattle.bench_say.specs.Say.{said, five}

-- the frame of a sending object: its handle, its identifier, and the line that wrote it
abbrev pub written : ℕ → ℕ → ℕ → ℕ → List ℕ
written object handle identifier line = said "object %2  handle %5  id %Iwritten at line %l" (five object handle identifier line 0)

-- the line of the sent event, if there was one
abbrev pub sent : Bool → ℕ → List ℕ
sent done line = said (cond done "sent at line %l" "not sent              ") (five line 0 0 0 0)

-- the poll that took or cancelled a frame
abbrev pub polled : ℕ → ℕ → List ℕ
polled line controller = said "  poll at line %6  controller %0  " (five line controller 0 0 0)

-- a frame that still waits, and whether its controller is off the bus
abbrev pub waiting : ℕ → Bool → List ℕ
waiting controller off = said (cond off "  controller %0, off the bus  " "  controller %0               ") (five controller 0 0 0 0)

-- what the bytes of an object say before its data
abbrev pub head : ℕ → ℕ → ℕ → ℕ → List ℕ
head identifier wire dlc handle =
    said "          identifier word %H, wire length %0, DLC %0, handle %0\n          data " (five identifier wire dlc handle 0)

-- the data of a frame, to the end of the line
abbrev pub data_of : List ℕ → List ℕ
data_of bytes = (ascii "data " ++ hex_or_none bytes) ++ ascii "\n"
