-- The call that each command asks for, as docs/BENCH.md has them: the function, and which word of the line it takes as what.
use Rattle.std.specs.Prelude.{ℕ, Result, Ok, Err}
use Rattle.bench_words.specs.declared.reading.Trouble.{Trouble}
use Rattle.bench_script.specs.declared.command.Command.{Command}
use Rattle.bench_script.specs.declared.command.Command.TheVariants.{Blank, Init, InitInWords, DeInit, Set, Get, ErrorState, RxErrors, TxErrors, Write, PollWrite, PollRead, PollMode, PollBusOff, Sent, BusOff, Errors, Arrived, Next, Data, Sheet, Memory, Show, State, Config, Controllers, Send, SendInPool, Receive}
use Rattle.can_calls.specs.declared.request.Function.TheVariants as functions
use Rattle.can_calls.specs.declared.request.Request.{Request}
use Rattle.bench_requests.specs.declared.request.Asks.{Asks}
use Rattle.bench_requests.specs.declared.request.Asks.TheVariants as asks
use Rattle.bench_requests.specs.declared.request.Asks.TheVariants.{Call, Other}
use Rattle.bench_requests.specs.declared.request.Wanted.{Wanted}

-- a call, and how many bytes its line brings: a configuration, or the data of a frame
abbrev pub call : Request → ℕ → Asks
call request bytes = Call (record { request = request; length = bytes })

-- Init, which takes a configuration alone
abbrev pub init : ℕ → Wanted
init bytes = record { request = record { function = functions.Init; controller = 0; object = 0; number = 0; receive = 0; identifier = 0 }; length = bytes }

-- the number is the mode asked for, the handle or the transmit count; what a function does not take is 0
abbrev pub request_of_command : Command → Asks
request_of_command (Init bytes) = Call (init bytes)
request_of_command InitInWords = asks.InitInWords
request_of_command DeInit = call (record { function = functions.DeInit; controller = 0; object = 0; number = 0; receive = 0; identifier = 0 }) 0
request_of_command (Set c mode) = call (record { function = functions.Set; controller = c; object = 0; number = mode; receive = 0; identifier = 0 }) 0
request_of_command (Get c) = call (record { function = functions.Get; controller = c; object = 0; number = 0; receive = 0; identifier = 0 }) 0
request_of_command (ErrorState c) = call (record { function = functions.ErrorState; controller = c; object = 0; number = 0; receive = 0; identifier = 0 }) 0
request_of_command (RxErrors c) = call (record { function = functions.RxErrors; controller = c; object = 0; number = 0; receive = 0; identifier = 0 }) 0
request_of_command (TxErrors c) = call (record { function = functions.TxErrors; controller = c; object = 0; number = 0; receive = 0; identifier = 0 }) 0
request_of_command (Write obj handle id bytes) = call (record { function = functions.Write; controller = 0; object = obj; number = handle; receive = 0; identifier = id }) bytes
request_of_command PollWrite = call (record { function = functions.PollWrite; controller = 0; object = 0; number = 0; receive = 0; identifier = 0 }) 0
request_of_command PollRead = call (record { function = functions.PollRead; controller = 0; object = 0; number = 0; receive = 0; identifier = 0 }) 0
request_of_command PollMode = call (record { function = functions.PollMode; controller = 0; object = 0; number = 0; receive = 0; identifier = 0 }) 0
request_of_command PollBusOff = call (record { function = functions.PollBusOff; controller = 0; object = 0; number = 0; receive = 0; identifier = 0 }) 0
request_of_command (Sent obj) = call (record { function = functions.Sent; controller = 0; object = obj; number = 0; receive = 0; identifier = 0 }) 0
request_of_command (BusOff c) = call (record { function = functions.BusOff; controller = c; object = 0; number = 0; receive = 0; identifier = 0 }) 0
request_of_command (Errors c tx rx) = call (record { function = functions.ErrorCounts; controller = c; object = 0; number = tx; receive = rx; identifier = 0 }) 0
request_of_command (Arrived c id bytes) = call (record { function = functions.Arrived; controller = c; object = 0; number = 0; receive = 0; identifier = id }) bytes
request_of_command (Next c) = call (record { function = functions.Next; controller = c; object = 0; number = 0; receive = 0; identifier = 0 }) 0
request_of_command Blank = Other
request_of_command (Data obj) = Other
request_of_command (Sheet n) = Other
request_of_command (Memory n) = Other
request_of_command (Show obj) = Other
request_of_command State = Other
request_of_command (Config v n) = Other
request_of_command (Controllers n) = Other
request_of_command (Send c p x) = Other
request_of_command (SendInPool c p x n) = Other
request_of_command (Receive c p code mask) = Other

-- what reading a line answers: a command, or the trouble with it; a line that can't be read asks for no call
abbrev pub request_of : Result Command Trouble → Asks
request_of (Ok command) = request_of_command command
request_of (Err trouble) = Other
