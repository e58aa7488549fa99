-- Lines of the input. docs/BENCH.md: a line ends with LF or CR LF, and the last one may end without.
use Rattle.std.specs.Prelude.{ℕ, Option, ◌+◌, ◌-◌, ◌≤◌, ◌<◌, min, ◌≡◌, Bool, true, false, cond, ◌&&◌, List, length, get_or, take, drop, eqb, ltb, leb}
use Rattle.std.specs.List.{position_or_len}
use Rattle.std.specs.Io.KnownBytes.{Consumes, IsAtEnd}
use Rattle.rules.specs.Bytes.{splice}
use Rattle.bench_lines.specs.declared.reader.Line.{Line}
use Rattle.bench_lines.specs.declared.reader.Line.TheVariants.{Part, Whole}
use Rattle.bench_lines.specs.declared.reader.Status.{Status}
use Rattle.bench_lines.specs.declared.reader.Status.TheVariants.{Open, Ended, Failed}
use Rattle.bench_lines.specs.declared.reader.Reader.{Reader}

abbrev pub LF : ℕ
LF = 10

abbrev pub CR : ℕ
CR = 13

-- the first place of a byte in a list; its length where there is none
abbrev pub index_of : ℕ → List ℕ → ℕ
index_of byte bytes = position_or_len (λ b. eqb b byte) bytes

-- what is said of a line that is longer than its room: more than any count
abbrev pub TOO_LONG : ℕ
TOO_LONG = 18446744073709551615

-- more bytes have room behind the first count bytes of a line
abbrev pub has_room : List ℕ → ℕ → List ℕ → Bool
has_room line count more = leb (count + length more) (length line)

-- they are put there, and r counts them, too; where they have no room the line stays as it was, and is too long
pub record Kept (count : ℕ) (more before after : List ℕ) (r : ℕ) : Type 0 where
  pub line_is : after ≡ cond (has_room before count more) (splice count more before) before
  pub count_is : r ≡ cond (has_room before count more) (count + length more) TOO_LONG

-- how many of the first count bytes belong to a line that an LF ends: a CR at their end does not
abbrev pub line_length : List ℕ → ℕ → ℕ
line_length line count = cond (ltb 0 count && eqb (get_or line (count - 1) 0) CR) (count - 1) count

-- of the bytes that a piece has left, those of the present line: the ones before the first LF, or all
abbrev pub line_part : List ℕ → List ℕ
line_part rest = take (index_of LF rest) rest

-- whether the line ends among them
abbrev pub line_ends : List ℕ → Bool
line_ends rest = ltb (index_of LF rest) (length rest)

-- A step within a piece of which so many bytes are taken, with so many bytes of a line read: the line's part of what is left is kept.
-- Where the line ends its LF is taken, too, and it is whole; else all of the piece is taken.
pub record Stretched (taken count : ℕ) (piece before after : List ℕ) (r : Reader) : Type 0 where
  pub read : ℕ
  pub part_kept : Kept count (line_part (drop taken piece)) before after read
  pub reader_is :
      r
      ≡ cond (line_ends (drop taken piece))
      (record { taken = taken + length (line_part (drop taken piece)) + 1; filled = length piece; line = Whole (line_length after read); status = Open })
      (record { taken = length piece; filled = length piece; line = Part read; status = Open })

-- Nothing read means that the input has ended, and what is read of a line is then the whole of it: the last one may end without an LF.
abbrev pub last_line : ℕ → Line
last_line count = cond (ltb 0 count) (Whole count) (Part count)

-- what is read of a line where the line's next piece was to be read: a line that a failed read cuts off is not whole
abbrev pub line_after : ℕ → Status → Line
line_after count Ended = last_line count
line_after count Open = Part count
line_after count Failed = Part count

-- the input goes on; not where it has ended or could not be read
abbrev pub goes_on : Status → Bool
goes_on Open = true
goes_on Ended = false
goes_on Failed = false

-- A new piece of at most so many bytes: what standard input has is not known, so neither is how much was read. The input goes on where
-- something was read, and only there.
pub record Refilled (count size : ℕ) (r : Reader) : Type 0 where
  pub within : r.filled ≤ size
  pub read : goes_on r.status ≡ ltb 0 r.filled
  pub reader_is : r ≡ record { taken = 0; filled = r.filled; line = line_after count r.status; status = r.status }

-- What a new piece takes of the bytes that its source has left, where they are known: those that the piece has. Where it has none, though the
-- buffer has room and nothing failed, none are left.
pub record Drawn (before after : Option (List ℕ)) (input : List ℕ) (r : Reader) : Type 0 where
  pub taken : Consumes before after (take r.filled input)
  pub at_the_end : r.status ≡ Ended → 0 < length input → IsAtEnd after

-- nothing is read yet
abbrev pub nothing_read : Reader
nothing_read = record { taken = 0; filled = 0; line = Part 0; status = Open }

-- how many bytes are read of the present line: a new one begins where the last one was whole
abbrev pub read_of : Line → ℕ
read_of (Part count) = count
read_of (Whole count) = 0

abbrev pub line_count : Reader → ℕ
line_count reader = read_of reader.line

-- how many bytes the piece has
abbrev pub piece_size : Reader → List ℕ → ℕ
piece_size reader input = min reader.filled (length input)

-- One step: within the piece where something of it is left, else a new piece.
pub record Advanced (reader : Reader) (input line input_after line_after : List ℕ) (r : Reader) : Type 0 where
  pub in_the_piece : reader.taken < piece_size reader input
      → Stretched reader.taken (line_count reader) (take (piece_size reader input) input) line line_after r × (input_after ≡ input)
  pub behind_the_piece : piece_size reader input ≤ reader.taken → Refilled (line_count reader) (length input) r × (line_after ≡ line)

-- what the same step takes of its source: within the piece nothing
pub record DrawnByStep (reader : Reader) (input input_after : List ℕ) (before after : Option (List ℕ)) (r : Reader) : Type 0 where
  pub in_the_piece : reader.taken < piece_size reader input → after ≡ before
  pub behind_the_piece : piece_size reader input ≤ reader.taken → Drawn before after input_after r
