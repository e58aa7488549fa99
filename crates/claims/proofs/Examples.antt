-- The hypotheses of the theorems can be met: a history in which each of them speaks of something.
use Prim.Native.Nat.{ℕ}
use mathlib.Core.Path.{◌≡◌, refl}
use mathlib.Core.Bool.{true}
use mathlib.Core.List.{List, [], ◌∷◌, ◌++◌}
use lib.ListN.{replicate}
use native.Mathlib.Omega.{arith}
use Rattle.rules.specs.Limits.{sheet_size, ram_size}
use Rattle.rules.specs.Repeat.{rising, all_below, list_below, lowest_or, better, best_below}
use Rattle.rules.specs.Bytes.{big_endian, number, splice, same_bytes}
use Rattle.rules.specs.Mode.{STARTED, STOPPED}
use Rattle.rules.specs.Reason.{first_reason, return_code}
use Rattle.rules.specs.Core.{mailbox_at, core_valid}
use Rattle.rules.specs.Configuration.{configuration_of, accepted_bytes}
use Rattle.rules.specs.State.{State, valid, initial_state}
use Rattle.rules.specs.Outcome.{judged, state_gate, sheet_gate, full_gate}
use Rattle.rules.specs.Services as services
use Rattle.rules.specs.Polls as polls
use Rattle.rules.specs.Polls.{visit_all, turn_all, errors_all}
use Rattle.rules.specs.Events as events
use Rattle.rules.specs.Calls.{init, set_controller_mode, write, main_function_write, main_function_read, main_function_mode, main_function_bus_off, tx_complete, bus_off_detected, errors_counted, frame_arrived}
use Rattle.rules.specs.Can.{Frame, can_format, next_length, lengths_below, object_bytes}
use Rattle.rules.specs.Chip.{chip}
use Rattle.history.specs.Call.{Call, Init, SetControllerMode, Write, MainFunctionWrite, MainFunctionRead, MainFunctionMode, MainFunctionBusOff, BusOffDetected, ErrorsCounted, FrameArrived, performed}
use Rattle.history.specs.Trace.{trace, left_by, is_accepted}
use Rattle.history.specs.Account.{force_by}
use Rattle.history.specs.Reference.{at_first, reference_by}
use Rattle.history.specs.Effect.{effect}
use Rattle.history.specs.Claim.{history}
use Rattle.history.specs.ErrorStates.{ErrorBook, no_trouble, enters, errors_by}
use Rattle.history.specs.PollRule.{StillSent, entry_at_poll, polled, closes_sent}

abbrev pub sheet : List ℕ
sheet = replicate (sheet_size chip) 0

abbrev pub ram : List ℕ
ram = replicate (ram_size chip) 0

-- three controllers; objects 0, 1 and 2 send, one on each, and object 3 receives 120 on controller 0
abbrev pub bytes : List ℕ
bytes =
    0x43 ∷ 0x48 ∷ 0x42 ∷ 0x00 ∷ 0x01 ∷ 0x03 ∷ 0x04 ∷ 0x00
    ∷ 0x00 ∷ 0x00 ∷ 0x08 ∷ 0xCC ∷ 0x00 ∷ 0x00 ∷ 0x00 ∷ 0x00 ∷ 0x00 ∷ 0x00 ∷ 0x00 ∷ 0x00
    ∷ 0x01 ∷ 0x00 ∷ 0x08 ∷ 0xCC ∷ 0x00 ∷ 0x00 ∷ 0x00 ∷ 0x00 ∷ 0x00 ∷ 0x00 ∷ 0x00 ∷ 0x00
    ∷ 0x02 ∷ 0x00 ∷ 0x08 ∷ 0xCC ∷ 0x00 ∷ 0x00 ∷ 0x00 ∷ 0x00 ∷ 0x00 ∷ 0x00 ∷ 0x00 ∷ 0x00
    ∷ 0x00 ∷ 0x01 ∷ 0x08 ∷ 0x00 ∷ 0x00 ∷ 0x00 ∷ 0x01 ∷ 0x20 ∷ 0x00 ∷ 0x00 ∷ 0x07 ∷ 0xFF ∷ []

abbrev pub frame : Frame
frame = record { identifier = 0x120; sdu = 0x01 ∷ 0x02 ∷ [] }

-- all controllers are STARTED, and every sending object is written
abbrev pub before : List (Call can_format)
before =
    Init sheet bytes
    ∷ SetControllerMode sheet 0 STARTED
    ∷ SetControllerMode sheet 1 STARTED
    ∷ SetControllerMode sheet 2 STARTED
    ∷ MainFunctionMode sheet
    ∷ Write sheet 0 7 (omega arith) frame
    ∷ Write sheet 1 8 (omega arith) frame
    ∷ Write sheet 2 9 (omega arith) frame
    ∷ []

-- after object 0 is sent: a frame arrives on its controller, controller 1 is stopped, controller 2 goes off the bus, and frames are read
abbrev pub between : List (Call can_format)
between =
    FrameArrived sheet 0 frame
    ∷ SetControllerMode sheet 1 STOPPED
    ∷ MainFunctionMode sheet
    ∷ BusOffDetected 2
    ∷ MainFunctionBusOff sheet
    ∷ MainFunctionRead sheet
    ∷ []

-- PollRule: object 0 is sent, all this comes between, and then the write poll
pub sent_then_polled : StillSent chip can_format 0 before between ram × (is_accepted (polled chip can_format 0 before between ram (MainFunctionWrite sheet)) ≡ true)
unfolding rising all_below list_below lowest_or better best_below big_endian number splice same_bytes first_reason return_code configuration_of accepted_bytes core_valid valid judged state_gate sheet_gate full_gate init set_controller_mode write main_function_write main_function_read main_function_mode main_function_bus_off tx_complete bus_off_detected frame_arrived services.set_controller_mode polls.main_function_write polls.main_function_read polls.main_function_mode polls.main_function_bus_off visit_all turn_all errors_all events.tx_complete events.bus_off_detected events.best_object next_length lengths_below object_bytes performed trace left_by force_by reference_by
sent_then_polled = (record { sent = refl; none_came = (refl, (refl, (refl, (refl, (refl, (refl, (refl, tt))))))) }, refl)

-- FirstPollRule: object h is sent, and once these calls have come the poll closes it
abbrev Closes : ℕ → List (Call can_format) → Call can_format → Type 0
Closes h since poll = StillSent chip can_format h before since ram × (closes_sent chip can_format (entry_at_poll chip can_format h before since ram) (effect can_format poll (polled chip can_format h before since ram poll)) ≡ true)

-- a stop of object 1's controller, and a bus-off of object 2's
pub sent_then_stopped : Closes 1 (SetControllerMode sheet 1 STOPPED ∷ []) (MainFunctionMode sheet)
unfolding rising all_below list_below lowest_or better best_below big_endian number splice same_bytes first_reason return_code configuration_of accepted_bytes core_valid valid judged state_gate sheet_gate full_gate init set_controller_mode write main_function_write main_function_read main_function_mode main_function_bus_off tx_complete bus_off_detected frame_arrived services.set_controller_mode polls.main_function_write polls.main_function_read polls.main_function_mode polls.main_function_bus_off visit_all turn_all errors_all events.tx_complete events.bus_off_detected events.best_object next_length lengths_below object_bytes performed trace left_by force_by reference_by
sent_then_stopped = (record { sent = refl; none_came = (refl, (refl, tt)) }, refl)

pub sent_then_off_bus : Closes 2 (BusOffDetected 2 ∷ []) (MainFunctionBusOff sheet)
unfolding rising all_below list_below lowest_or better best_below big_endian number splice same_bytes first_reason return_code configuration_of accepted_bytes core_valid valid judged state_gate sheet_gate full_gate init set_controller_mode write main_function_write main_function_read main_function_mode main_function_bus_off tx_complete bus_off_detected frame_arrived services.set_controller_mode polls.main_function_write polls.main_function_read polls.main_function_mode polls.main_function_bus_off visit_all turn_all errors_all events.tx_complete events.bus_off_detected events.best_object next_length lengths_below object_bytes performed trace left_by force_by reference_by
sent_then_off_bus = (record { sent = refl; none_came = (refl, (refl, tt)) }, refl)

-- ErrorRule: controller 0 enters passive by its transmit count, then it goes off the bus
abbrev book_by : List (Call can_format) → ErrorBook
book_by calls = errors_by chip can_format 0 at_first no_trouble (history chip can_format calls ram)

abbrev passive : List (Call can_format)
passive = before ++ (ErrorsCounted sheet 0 128 0 ∷ [])

pub passive_then_off : (enters (book_by before) (book_by passive) ≡ true) × ((book_by (passive ++ (ErrorsCounted sheet 0 256 0 ∷ []))).off ≡ true)
unfolding rising all_below list_below lowest_or better best_below big_endian number splice same_bytes first_reason return_code configuration_of accepted_bytes core_valid valid judged sheet_gate full_gate init set_controller_mode write main_function_mode errors_counted services.set_controller_mode polls.main_function_mode visit_all turn_all errors_all events.errors_counted next_length lengths_below object_bytes performed trace errors_by
passive_then_off = (refl, refl)

-- ValidRule and ReceivedRule: a sound state in which object 3 is full
abbrev pub full_state : State can_format
full_state = (left_by chip can_format (before ++ (FrameArrived sheet 0 frame ∷ [])) (initial_state chip can_format) ram).state

pub full_and_sound : (valid chip can_format full_state ≡ true) × ((mailbox_at full_state.core.mailboxes 3).rx_full ≡ true)
unfolding rising all_below list_below lowest_or better best_below big_endian number splice same_bytes first_reason return_code configuration_of accepted_bytes core_valid valid judged sheet_gate full_gate init set_controller_mode write main_function_mode frame_arrived services.set_controller_mode polls.main_function_mode visit_all turn_all errors_all events.best_object next_length lengths_below object_bytes performed left_by
full_and_sound = (refl, refl)
