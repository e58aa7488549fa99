-- What a request asks of the driver: the rules' definition of the function that it names.
use Rattle.std.specs.Prelude.{ℕ, ◌%◌, Bool, true, false, List}
use Rattle.rules.specs.State.{State}
use Rattle.rules.specs.Outcome.{Outcome, of_mode, of_error_state, of_rx_errors, of_tx_errors}
use Rattle.rules.specs.Calls as rules
use Rattle.rules.specs.Can.{Frame, can_format}
use Rattle.rules.specs.Chip.{chip}
use Rattle.can_calls.specs.declared.request.Function.{Function}
use Rattle.can_calls.specs.declared.request.Function.TheVariants.{Init, DeInit, Set, Get, ErrorState, RxErrors, TxErrors, Write, PollWrite, PollRead, PollMode, PollBusOff, Sent, BusOff, ErrorCounts, Arrived, Next}
use Rattle.can_calls.specs.declared.request.Request.{Request}

-- a handle has 16 bits: of a larger number the low ones are taken
abbrev pub handle : Request → ℕ
handle request = request.number % 65536

-- the frame that a write or an arrival brings
abbrev pub frame : Request → List ℕ → Frame
frame request bytes = record { identifier = request.identifier; sdu = bytes }

-- what each function makes of the request and its bytes; the number is the length of the sheet
unfoldable pub outcome_of : Function → Request → List ℕ → State can_format → ℕ → List ℕ → Outcome (State can_format)
outcome_of Init request bytes s sheet ram = rules.init chip can_format s sheet ram bytes
outcome_of DeInit request bytes s sheet ram = rules.deinit chip can_format s sheet ram
outcome_of Set request bytes s sheet ram = rules.set_controller_mode chip can_format s sheet ram request.controller request.number
outcome_of Get request bytes s sheet ram = rules.ask_controller chip can_format of_mode s sheet ram request.controller
outcome_of ErrorState request bytes s sheet ram = rules.ask_controller chip can_format of_error_state s sheet ram request.controller
outcome_of RxErrors request bytes s sheet ram = rules.ask_controller chip can_format of_rx_errors s sheet ram request.controller
outcome_of TxErrors request bytes s sheet ram = rules.ask_controller chip can_format of_tx_errors s sheet ram request.controller
outcome_of Write request bytes s sheet ram = rules.write chip can_format s sheet ram request.object (handle request) (frame request bytes)
outcome_of PollWrite request bytes s sheet ram = rules.main_function_write chip can_format s sheet ram
outcome_of PollRead request bytes s sheet ram = rules.main_function_read chip can_format s sheet ram
outcome_of PollMode request bytes s sheet ram = rules.main_function_mode chip can_format s sheet ram
outcome_of PollBusOff request bytes s sheet ram = rules.main_function_bus_off chip can_format s sheet ram
outcome_of Sent request bytes s sheet ram = rules.tx_complete chip can_format s ram request.object
outcome_of BusOff request bytes s sheet ram = rules.bus_off_detected chip can_format s ram request.controller
-- of the two counts the transmit count is the number
outcome_of ErrorCounts request bytes s sheet ram = rules.errors_counted chip can_format s sheet ram request.controller request.number request.receive
outcome_of Arrived request bytes s sheet ram = rules.frame_arrived chip can_format s sheet ram request.controller (frame request bytes)
outcome_of Next request bytes s sheet ram = rules.next_to_send chip can_format s ram request.controller

-- what the request's own function makes of it
abbrev pub outcome : Request → List ℕ → State can_format → ℕ → List ℕ → Outcome (State can_format)
outcome request bytes s sheet ram = outcome_of request.function request bytes s sheet ram

-- the four kinds of call
abbrev pub SERVICE : ℕ
SERVICE = 0

abbrev pub POLL : ℕ
POLL = 1

abbrev pub EVENT : ℕ
EVENT = 2

abbrev pub CHOICE : ℕ
CHOICE = 3

-- of which kind a function is
abbrev pub kind : Function → ℕ
kind Init = SERVICE
kind DeInit = SERVICE
kind Set = SERVICE
kind Get = SERVICE
kind ErrorState = SERVICE
kind RxErrors = SERVICE
kind TxErrors = SERVICE
kind Write = SERVICE
kind PollWrite = POLL
kind PollRead = POLL
kind PollMode = POLL
kind PollBusOff = POLL
kind Sent = EVENT
kind BusOff = EVENT
kind ErrorCounts = EVENT
kind Arrived = EVENT
kind Next = CHOICE

-- the bus-off poll
abbrev pub is_bus_off_poll : Function → Bool
is_bus_off_poll Init = false
is_bus_off_poll DeInit = false
is_bus_off_poll Set = false
is_bus_off_poll Get = false
is_bus_off_poll ErrorState = false
is_bus_off_poll RxErrors = false
is_bus_off_poll TxErrors = false
is_bus_off_poll Write = false
is_bus_off_poll PollWrite = false
is_bus_off_poll PollRead = false
is_bus_off_poll PollMode = false
is_bus_off_poll PollBusOff = true
is_bus_off_poll Sent = false
is_bus_off_poll BusOff = false
is_bus_off_poll ErrorCounts = false
is_bus_off_poll Arrived = false
is_bus_off_poll Next = false
