-- What each command's words must be, read from left to right; the first trouble counts.
use Rattle.std.specs.Prelude.{ℕ, ◌≡◌, Bool, cond, ◌&&◌, List, [], length, ltb, leb, bytes_eq, codes, Result, Ok, Err, ok_or}
use Rattle.rules.specs.Bytes.{splice}
use Rattle.bench_words.specs.Split.{is_missing, first, after}
use Rattle.bench_words.specs.Reading.{with_value, number_of, limited_to, mode_of, identifier_of, bytes_of, longest_line, largest_handle, largest_sheet, largest_memory, largest_room, largest_byte}
use Rattle.bench_script.specs.Name.{name_of, arguments_of}
use Rattle.bench_script.specs.Count.{counted}
use Rattle.bench_script.specs.Object.{object_of}
use Rattle.bench_script.specs.declared.name.Name.{Name}
use Rattle.bench_script.specs.declared.name.Name.TheVariants as names
use Rattle.bench_words.specs.declared.reading.Trouble.{Trouble}
use Rattle.bench_words.specs.declared.reading.Trouble.TheVariants.{LineTooLong, UnknownCommand, UnknownPoll, HandleTooLarge, SheetTooLong, MemoryTooLong, RoomTooLarge, ByteTooLarge}
use Rattle.bench_script.specs.declared.command.Command.{Command}
use Rattle.bench_script.specs.declared.command.Command.TheVariants.{Blank, Init, InitInWords, DeInit, Set, Get, ErrorState, RxErrors, TxErrors, Write, PollWrite, PollRead, PollMode, PollBusOff, Sent, BusOff, Errors, Arrived, Next, Data, Sheet, Memory, Show, State, Config, Controllers}

-- what a line says: a command, or the trouble with it, and the bytes that it brings
abbrev pub Said : Type 0
Said = Result Command Trouble × List ℕ

abbrev pub silent : Result Command Trouble → Said
silent command = (command, [])

-- what is read on behind a word that can be read, or the trouble with the word
abbrev pub reading_on : {A : Type 0} → Result A Trouble → (A → Said) → Said
reading_on (Ok x) on = on x
reading_on (Err t) on = silent (Err t)

-- the last words say bytes
abbrev pub with_bytes : List ℕ → (ℕ → Command) → Said
with_bytes text make = (with_value (bytes_of text).0 (λ n. Ok (make n)), (bytes_of text).1)

-- init BYTES, or init alone
abbrev pub init_of : List ℕ → Said
init_of text = cond (is_missing 0 text) (silent (Ok InitInWords)) (with_bytes text (λ n. Init n))

-- set C MODE
abbrev pub set_of : List ℕ → Result Command Trouble
set_of text = with_value (number_of (first text)) (λ c. with_value (mode_of (first (after text))) (λ m. Ok (Set c m)))

-- get C, errorstate C, rxerrors C, txerrors C, sent OBJ, busoff C, next C, data OBJ, show OBJ
abbrev pub with_number : (ℕ → Command) → List ℕ → Result Command Trouble
with_number make text = with_value (number_of (first text)) (λ n. Ok (make n))

-- sheet N, memory N, controllers N: the number has a limit, and one above it has trouble of its own
abbrev pub with_limited : (ℕ → Command) → ℕ → Trouble → List ℕ → Result Command Trouble
with_limited make limit trouble text = with_value (limited_to limit trouble (number_of (first text))) (λ n. Ok (make n))

-- errors C TX RX
abbrev pub errors_of : List ℕ → Result Command Trouble
errors_of text =
    with_value (number_of (first text))
    (λ c. with_value (number_of (first (after text))) (λ tx. with_value (number_of (first (after (after text)))) (λ rx. Ok (Errors c tx rx))))

-- config V ROOM
abbrev pub config_of : List ℕ → Result Command Trouble
config_of text =
    with_value (number_of (first text)) (λ v. with_value (limited_to largest_room RoomTooLarge (number_of (first (after text)))) (λ n. Ok (Config v n)))

-- write OBJ HANDLE ID BYTES
abbrev pub write_of : List ℕ → Said
write_of text =
    reading_on (number_of (first text))
    (λ h. reading_on (limited_to largest_handle HandleTooLarge (number_of (first (after text))))
    (λ p. reading_on (identifier_of (first (after (after text)))) (λ i. with_bytes (after (after (after text))) (λ n. Write h p i n))))

-- arrived C ID BYTES
abbrev pub arrived_of : List ℕ → Said
arrived_of text =
    reading_on (number_of (first text)) (λ c. reading_on (identifier_of (first (after text))) (λ i. with_bytes (after (after text)) (λ n. Arrived c i n)))

-- poll write | read | mode | busoff
unfoldable pub poll_of : List ℕ → Result Command Trouble
poll_of w =
    cond (bytes_eq w (codes "write")) (Ok PollWrite)
    (cond (bytes_eq w (codes "read")) (Ok PollRead)
    (cond (bytes_eq w (codes "mode")) (Ok PollMode)
    (cond (bytes_eq w (codes "busoff")) (Ok PollBusOff) (Err UnknownPoll))))

-- the words after a name
unfoldable pub named : Name → List ℕ → Said
named names.Init text = init_of text
named names.DeInit text = silent (Ok DeInit)
named names.Set text = silent (set_of text)
named names.Get text = silent (with_number Get text)
named names.ErrorState text = silent (with_number ErrorState text)
named names.RxErrors text = silent (with_number RxErrors text)
named names.TxErrors text = silent (with_number TxErrors text)
named names.Write text = write_of text
named names.Poll text = silent (poll_of (first text))
named names.Sent text = silent (with_number Sent text)
named names.BusOff text = silent (with_number BusOff text)
named names.Errors text = silent (errors_of text)
named names.Arrived text = arrived_of text
named names.Next text = silent (with_number Next text)
named names.Data text = silent (with_number Data text)
named names.Sheet text = silent (with_limited Sheet largest_sheet SheetTooLong text)
named names.Memory text = silent (with_limited Memory largest_memory MemoryTooLong text)
named names.Show text = silent (with_number Show text)
named names.State text = silent (Ok State)
named names.Config text = silent (config_of text)
named names.Controllers text = silent (with_limited Controllers largest_byte ByteTooLarge text)
named names.Object text = silent (object_of text)

-- what a line says
unfoldable pub command_of : List ℕ → Said
command_of line =
    cond (ltb longest_line (length line)) (silent (Err LineTooLong))
    (cond (is_missing 0 line) (silent (Ok Blank))
    (reading_on (ok_or (name_of (first line)) UnknownCommand) (λ name. reading_on (counted (arguments_of name) line) (λ _. named name (after line)))))

-- a line that is blank, or a comment alone
abbrev pub says_nothing : List ℕ → Bool
says_nothing line = leb (length line) longest_line && is_missing 0 line

-- what reading a line owes: the command or the trouble, and its bytes at the start of the buffer; whatever they do not cover keeps its value
pub record CommandRead (said : Said) (before after : List ℕ) (r : Result Command Trouble) : Type 0 where
  pub command_is : r ≡ said.0
  pub bytes_are : after ≡ splice 0 said.1 before
