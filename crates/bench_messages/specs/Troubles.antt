-- What is wrong with a line of a script, and what was expected.
use Prim.Native.String.{String}
use Rattle.std.specs.Prelude.{cond, eqb, length, Option, Some, None}
use Rattle.bench_words.specs.Text.{ascii}
use Rattle.bench_words.specs.declared.reading.Trouble.{Trouble}
use Rattle.bench_words.specs.declared.reading.Trouble.TheVariants.{LineTooLong, UnknownCommand, WordMissing, WordTooMany, NotANumber, NumberTooLarge, NotAnIdentifier, IdentifierTooLong, NotHexDigits, OddDigits, NotOneByte, NotAMode, UnknownPoll, HandleTooLarge, SheetTooLong, MemoryTooLong, RoomTooLarge, ByteTooLarge, UnexpectedWord, UnknownKind, TooManyObjects}
use Rattle.bench_script.specs.declared.name.Name.{Name}
use Rattle.bench_script.specs.declared.name.Name.TheVariants as names

-- what is wrong
abbrev pub trouble_text : Trouble → String
trouble_text LineTooLong = "line too long"
trouble_text UnknownCommand = "unknown command"
trouble_text WordMissing = "a word is missing"
trouble_text WordTooMany = "a word too many"
trouble_text NotANumber = "not a number"
trouble_text NumberTooLarge = "number too large"
trouble_text NotAnIdentifier = "not an identifier"
trouble_text IdentifierTooLong = "identifier too long"
trouble_text NotHexDigits = "not hex digits"
trouble_text OddDigits = "odd number of digits"
trouble_text NotOneByte = "not one byte"
trouble_text NotAMode = "not a mode"
trouble_text UnknownPoll = "unknown poll"
trouble_text HandleTooLarge = "handle too large"
trouble_text SheetTooLong = "sheet too long"
trouble_text MemoryTooLong = "memory too long"
trouble_text RoomTooLarge = "room too large"
trouble_text ByteTooLarge = "does not fit a byte"
trouble_text UnexpectedWord = "unexpected word"
trouble_text UnknownKind = "unknown kind of object"
trouble_text TooManyObjects = "too many objects"

-- the words of a command, or the names of all where the line names none
abbrev pub usage_text : Option Name → String
usage_text (Some names.Init) = "init BYTES, or init alone"
usage_text (Some names.DeInit) = "deinit"
usage_text (Some names.Set) = "set CONTROLLER MODE"
usage_text (Some names.Get) = "get CONTROLLER"
usage_text (Some names.ErrorState) = "errorstate CONTROLLER"
usage_text (Some names.RxErrors) = "rxerrors CONTROLLER"
usage_text (Some names.TxErrors) = "txerrors CONTROLLER"
usage_text (Some names.Write) = "write OBJECT HANDLE ID BYTES"
usage_text (Some names.Poll) = "poll write, poll read, poll mode or poll busoff"
usage_text (Some names.Sent) = "sent OBJECT"
usage_text (Some names.BusOff) = "busoff CONTROLLER"
usage_text (Some names.Errors) = "errors CONTROLLER TRANSMIT RECEIVE"
usage_text (Some names.Arrived) = "arrived CONTROLLER ID BYTES"
usage_text (Some names.Next) = "next CONTROLLER"
usage_text (Some names.Data) = "data OBJECT"
usage_text (Some names.Sheet) = "sheet WORDS"
usage_text (Some names.Memory) = "memory BYTES"
usage_text (Some names.Show) = "show OBJECT"
usage_text (Some names.State) = "state"
usage_text (Some names.Config) = "config VERSION ROOM"
usage_text (Some names.Controllers) = "controllers COUNT"
usage_text (Some names.Object) = "object send controller C payload P padding XX, the same with pool N behind it, or object receive controller C payload P code ID mask ID"
usage_text None = "init, controllers, object, deinit, set, get, errorstate, rxerrors, txerrors, write, poll, sent, busoff, errors, arrived, next, data, sheet, memory, show, state or config"

-- what was expected instead of a word; nothing where the trouble is with the whole of a command
abbrev pub word_text : Trouble → String
word_text LineTooLong = "at most 8192 bytes"
word_text UnknownCommand = ""
word_text WordMissing = ""
word_text WordTooMany = ""
word_text NotANumber = "decimal digits, or 0x and hex digits"
word_text NumberTooLarge = "at most 4294967295"
word_text NotAnIdentifier = "hex digits, with or without 0x"
word_text IdentifierTooLong = "at most 8 hex digits"
word_text NotHexDigits = "hex digits in pairs, or - alone for none"
word_text OddDigits = "two hex digits for each byte"
word_text NotOneByte = "two hex digits"
word_text NotAMode = "STARTED, STOPPED, SLEEP or a number"
word_text UnknownPoll = ""
word_text HandleTooLarge = "at most 65535"
word_text SheetTooLong = "at most 4096 words"
word_text MemoryTooLong = "at most 16384 bytes"
word_text RoomTooLarge = "at most 4096 bytes"
word_text ByteTooLarge = "at most 255"
word_text UnexpectedWord = ""
word_text UnknownKind = "send or receive"
word_text TooManyObjects = "at most 255"

-- the command whose words were expected, where the trouble is with the whole of one
abbrev pub command_of : Trouble → Option Name → Option Name
command_of LineTooLong name = name
command_of UnknownCommand name = name
command_of WordMissing name = name
command_of WordTooMany name = name
command_of NotANumber name = name
command_of NumberTooLarge name = name
command_of NotAnIdentifier name = name
command_of IdentifierTooLong name = name
command_of NotHexDigits name = name
command_of OddDigits name = name
command_of NotOneByte name = name
command_of NotAMode name = name
command_of UnknownPoll name = Some names.Poll
command_of HandleTooLarge name = name
command_of SheetTooLong name = name
command_of MemoryTooLong name = name
command_of RoomTooLarge name = name
command_of ByteTooLarge name = name
command_of UnexpectedWord name = Some names.Object
command_of UnknownKind name = name
command_of TooManyObjects name = name

-- what was expected of a line that begins with a command's name: the words of a command where no word is at fault
abbrev pub expected_text : Trouble → Option Name → String
expected_text trouble name = cond (eqb (length (ascii (word_text trouble))) 0) (usage_text (command_of trouble name)) (word_text trouble)
