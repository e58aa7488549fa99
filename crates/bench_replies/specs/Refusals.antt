-- Why a call is refused, in words.
use Rattle.std.specs.Prelude.{ℕ, Bool, cond, List, eqb, ltb}
use Prim.Native.String.{String}
use Rattle.rules.specs.Can.{is_fd, longest_fd}
use Rattle.rules.specs.Errors.{ERROR_LIMIT}
use Rattle.core_answers.specs.Answer.{reason_of}
use Rattle.core_answers.specs.declared.rejection.Rejection.{Rejection}
use Rattle.core_answers.specs.declared.rejection.Rejection.TheVariants.{ParamHandle, ParamDataLength, ParamController, Uninit, Transition, InitFailed, SheetTooShort, WrongRamSize, BadIdentifier, NotStarted, ObjectBusy, BusOff, NothingToSend, BadLength, InvalidState, ErrorCountTooLarge}
use Rattle.can_calls.specs.declared.request.Function.{Function}
use Rattle.can_calls.specs.declared.request.Function.TheVariants as functions
use Rattle.bench_say.specs.Say.{said, five}

-- the verdict, with the reason's number: CAN_BUSY, the reason 36, is its own word
abbrev pub verdict : Rejection → List ℕ
verdict reason = said (cond (eqb (reason_of reason) 36) "busy %0: " "rejected %0: ") (five (reason_of reason) 0 0 0 0)

-- 6: a service that cannot go there from here. Of the calls that are not named here DeInit alone has this reason
abbrev pub other_text : Bool → String
other_text initialised = cond initialised "a controller is STARTED" "the driver is not initialised"

abbrev pub transition_text : Function → Bool → String
transition_text functions.Init initialised = "the driver is initialised already"
transition_text functions.DeInit initialised = other_text initialised
transition_text functions.Set initialised = "controller %0 cannot go from %m to %m"
transition_text functions.Get initialised = other_text initialised
transition_text functions.ErrorState initialised = other_text initialised
transition_text functions.RxErrors initialised = other_text initialised
transition_text functions.TxErrors initialised = other_text initialised
transition_text functions.Write initialised = other_text initialised
transition_text functions.PollWrite initialised = other_text initialised
transition_text functions.PollRead initialised = other_text initialised
transition_text functions.PollMode initialised = other_text initialised
transition_text functions.PollBusOff initialised = other_text initialised
transition_text functions.Sent initialised = other_text initialised
transition_text functions.BusOff initialised = other_text initialised
transition_text functions.ErrorCounts initialised = other_text initialised
transition_text functions.Arrived initialised = other_text initialised
transition_text functions.Next initialised = other_text initialised

-- 3: data that does not fit the format or the object
abbrev pub data_text : ℕ → ℕ → String
data_text identifier length =
    cond (is_fd identifier) (cond (ltb longest_fd length) "%b, and an FD frame holds at most 64" "%b as an FD frame, and the object's payload is 8") "%b, and a classic frame holds at most 8"

-- 40: a length that no frame of its format has on the wire
abbrev pub wire_text : ℕ → String
wire_text identifier = cond (is_fd identifier) "no FD frame on the wire has %b" "no classic frame on the wire has %b"

-- what a reason means, for a call with this identifier and so many bytes
abbrev pub refusal_text : Rejection → Function → ℕ → ℕ → Bool → String
refusal_text ParamHandle function identifier length initialised = "object %0 is no configured sending object"
refusal_text ParamDataLength function identifier length initialised = data_text identifier length
refusal_text ParamController function identifier length initialised = "controller %0 is not configured"
refusal_text Uninit function identifier length initialised = "the driver is not initialised"
refusal_text Transition function identifier length initialised = transition_text function initialised
refusal_text InitFailed function identifier length initialised = "the configuration is not valid"
refusal_text SheetTooShort function identifier length initialised = "the sheet has %w, and a call needs %0"
refusal_text WrongRamSize function identifier length initialised = "the memory has %b, and the chip's has %0"
refusal_text BadIdentifier function identifier length initialised = "id %i is not a valid identifier"
refusal_text NotStarted function identifier length initialised = "controller %0 is not STARTED"
refusal_text ObjectBusy function identifier length initialised = "object %0 holds the frame of line %0"
refusal_text BusOff function identifier length initialised = "controller %0 is off the bus"
refusal_text NothingToSend function identifier length initialised = "object %0 holds no frame that waits to be sent"
refusal_text BadLength function identifier length initialised = wire_text identifier
refusal_text InvalidState function identifier length initialised = "the driver state is not valid"
refusal_text ErrorCountTooLarge function identifier length initialised = "an error count is too large"

-- 43: the count that is too large, the first of the two if both are
abbrev pub too_large : ℕ → ℕ → List ℕ
too_large tx rx =
    cond (ltb ERROR_LIMIT tx) (said "transmit count %0, expected at most 65535" (five tx 0 0 0 0)) (said "receive count %0, expected at most 65535" (five rx 0 0 0 0))
