-- Calls in words.
use Rattle.std.specs.Prelude.{ℕ, List}
use Prim.Native.String.{String}
use Rattle.can_calls.specs.declared.request.Function.{Function}
use Rattle.can_calls.specs.declared.request.Function.TheVariants.{Init, DeInit, Set, Get, ErrorState, RxErrors, TxErrors, Write, PollWrite, PollRead, PollMode, PollBusOff, Sent, BusOff, ErrorCounts, Arrived, Next}
use Rattle.can_calls.specs.declared.request.Request.{Request}
use Rattle.bench_say.specs.Say.{five}

-- what is called
abbrev pub call_text : Function → String
call_text Init = "init with %b"
call_text DeInit = "deinit"
call_text Set = "set controller %0 to %m"
call_text Get = "get controller %0"
call_text ErrorState = "error state of controller %0"
call_text RxErrors = "receive errors of controller %0"
call_text TxErrors = "transmit errors of controller %0"
call_text Write = "write object %0, handle %0, id %i, %b"
call_text PollWrite = "poll write"
call_text PollRead = "poll read"
call_text PollMode = "poll mode"
call_text PollBusOff = "poll busoff"
call_text Sent = "sent from object %0"
call_text BusOff = "busoff of controller %0"
call_text ErrorCounts = "errors of controller %0: transmit %0, receive %0"
call_text Arrived = "arrived on controller %0, id %i, %b"
call_text Next = "next on controller %0"

-- the numbers of a call that brings so many bytes, in the order of its text
abbrev pub numbers_of : Function → Request → ℕ → List ℕ
numbers_of Init r bytes = five bytes 0 0 0 0
numbers_of DeInit r bytes = five 0 0 0 0 0
numbers_of Set r bytes = five r.controller r.number 0 0 0
numbers_of Get r bytes = five r.controller 0 0 0 0
numbers_of ErrorState r bytes = five r.controller 0 0 0 0
numbers_of RxErrors r bytes = five r.controller 0 0 0 0
numbers_of TxErrors r bytes = five r.controller 0 0 0 0
numbers_of Write r bytes = five r.object r.number r.identifier bytes 0
numbers_of PollWrite r bytes = five 0 0 0 0 0
numbers_of PollRead r bytes = five 0 0 0 0 0
numbers_of PollMode r bytes = five 0 0 0 0 0
numbers_of PollBusOff r bytes = five 0 0 0 0 0
numbers_of Sent r bytes = five r.object 0 0 0 0
numbers_of BusOff r bytes = five r.controller 0 0 0 0
numbers_of ErrorCounts r bytes = five r.controller r.number r.receive 0 0
numbers_of Arrived r bytes = five r.controller r.identifier bytes 0 0
numbers_of Next r bytes = five r.controller 0 0 0 0

abbrev pub call_numbers : Request → ℕ → List ℕ
call_numbers r bytes = numbers_of r.function r bytes
