-- A short history of ranged frames, computed: what each call gives by the shared definitions.
use Prim.Native.Nat.{ℕ}
use mathlib.Core.Path.{◌≡◌, refl}
use mathlib.Core.List.{List, [], ◌∷◌, ◌++◌, map}
use lib.ListN.{replicate}
use native.Mathlib.Omega.{arith}
use Rattle.rules.specs.Limits.{sheet_size, ram_size}
use Rattle.rules.specs.Repeat.{rising, all_below, list_below, lowest_or, better, best_below}
use Rattle.rules.specs.Bytes.{big_endian, number, splice, same_bytes}
use Rattle.rules.specs.Mode.{STARTED}
use Rattle.rules.specs.Notification.{Notification, tx_confirmation, rx_indication, mode_indication, development_error}
use Rattle.rules.specs.Reason.{first_reason, return_code}
use Rattle.rules.specs.Core.{core_valid}
use Rattle.rules.specs.Configuration.{configuration_of, accepted_bytes}
use Rattle.rules.specs.State.{valid, initial_state}
use Rattle.rules.specs.Outcome.{Answer, no_answer, taken_by, stored_in, judged, state_gate, sheet_gate, full_gate}
use Rattle.rules.specs.Services as services
use Rattle.rules.specs.Services.{WRITE}
use Rattle.rules.specs.Polls as polls
use Rattle.rules.specs.Polls.{visit_all, turn_all, errors_all}
use Rattle.rules.specs.Events as events
use Rattle.rules.specs.Calls.{init, set_controller_mode, write, main_function_write, main_function_read, main_function_mode, tx_complete, frame_arrived}
use Rattle.history.specs.Call.{Call, Init, SetControllerMode, Write, MainFunctionWrite, MainFunctionRead, MainFunctionMode, TxComplete, FrameArrived, performed}
use Rattle.history.specs.Trace.{Step, trace, left_by}
use Rattle.history.specs.Claim.{history}
use Rattle.second_format.specs.Ranged.{Frame, object_bytes, ranged_format, small_chip}

-- what a call gives: its reason, its answer and its records
pub record Given : Type 0 where
  pub reason : ℕ
  pub answer : Answer
  pub records : List Notification

-- a call, and what it must give
pub record Row : Type 0 where
  pub call : Call ranged_format
  pub given : Given

-- a line of the table: the call, and then its reason, answer and records
infix 70 ◌gives◌
abbrev ◌gives◌ : Call ranged_format → Given → Row
c gives g = record { call = c; given = g }

abbrev given : ℕ → Answer → List Notification → Given
given reason answer records = record { reason = reason; answer = answer; records = records }

-- what the definitions give for a call of the history
abbrev of_step : Step ranged_format → Given
of_step x = given x.outcome.reason x.outcome.answer x.outcome.notifications

-- sheet and memory of the sizes that this chip asks for
abbrev sheet : List ℕ
sheet = replicate (sheet_size small_chip) 0

abbrev ram : List ℕ
ram = replicate (ram_size small_chip) 0

-- one controller; object 0 sends up to 4 bytes, object 1 takes every identifier, object 2 those from 0x100 to 0x1FF
abbrev bytes : List ℕ
bytes =
    0x52 ∷ 0x4E ∷ 0x47 ∷ 0x00 ∷ 0x02 ∷ 0x01 ∷ 0x03 ∷ 0x00
    ∷ 0x00 ∷ 0x00 ∷ 0x04 ∷ 0x00 ∷ 0x00 ∷ 0x00 ∷ 0x00
    ∷ 0x00 ∷ 0x01 ∷ 0x00 ∷ 0x00 ∷ 0x00 ∷ 0xFF ∷ 0xFF
    ∷ 0x00 ∷ 0x01 ∷ 0x00 ∷ 0x01 ∷ 0x00 ∷ 0x01 ∷ 0xFF ∷ []

-- a frame with this identifier and n bytes of data
abbrev frame : ℕ → ℕ → Frame
frame identifier n = record { identifier = identifier; sdu = replicate n 0x55 }

-- the calls in a row, each with what it must give
abbrev pub table : List Row
table =
    -- configured and started
    Init sheet bytes gives given 0 no_answer []
    ∷ SetControllerMode sheet 0 STARTED gives given 0 no_answer []
    ∷ MainFunctionMode sheet gives given 0 no_answer (mode_indication 0 STARTED ∷ [])
    -- a write is longer than its object carries; the next is taken, sent, and confirmed with its handle
    ∷ Write sheet 0 7 (omega arith) (frame 0x123 5) gives given 3 no_answer (development_error WRITE 3 ∷ [])
    ∷ Write sheet 0 7 (omega arith) (frame 0x123 4) gives given 0 (taken_by 0) []
    ∷ TxComplete 0 gives given 0 no_answer []
    ∷ MainFunctionWrite sheet gives given 0 no_answer (tx_confirmation 0 7 ∷ [])
    -- an arrival goes to the narrower range, the next to the wider one, since the other is full; then both are read
    ∷ FrameArrived sheet 0 (frame 0x123 8) gives given 0 (stored_in 2) []
    ∷ FrameArrived sheet 0 (frame 0x124 6) gives given 0 (stored_in 1) []
    ∷ MainFunctionRead sheet gives given 0 no_answer (rx_indication 1 0x124 6 ∷ rx_indication 2 0x123 8 ∷ [])
    ∷ []

abbrev pub calls : List (Call ranged_format)
calls = map (λ r. r.call) table

-- the three objects in the end: identifier, length of two bytes, handle, data, zeros
abbrev pub memory : List ℕ
memory =
    (0x00 ∷ 0x00 ∷ 0x01 ∷ 0x23 ∷ 0x00 ∷ 0x04 ∷ 0x00 ∷ 0x07 ∷ 0x55 ∷ 0x55 ∷ 0x55 ∷ 0x55 ∷ 0x00 ∷ 0x00 ∷ 0x00 ∷ 0x00 ∷ [])
    ++ (0x00 ∷ 0x00 ∷ 0x01 ∷ 0x24 ∷ 0x00 ∷ 0x06 ∷ 0x00 ∷ 0x00 ∷ 0x55 ∷ 0x55 ∷ 0x55 ∷ 0x55 ∷ 0x55 ∷ 0x55 ∷ 0x00 ∷ 0x00 ∷ [])
    ++ (0x00 ∷ 0x00 ∷ 0x01 ∷ 0x23 ∷ 0x00 ∷ 0x08 ∷ 0x00 ∷ 0x00 ∷ 0x55 ∷ 0x55 ∷ 0x55 ∷ 0x55 ∷ 0x55 ∷ 0x55 ∷ 0x55 ∷ 0x55 ∷ [])

-- each call gives what stands beside it, and together they leave this memory
pub ranged_lines : (map of_step (history small_chip ranged_format calls ram) ≡ map (λ r. r.given) table) × ((left_by small_chip ranged_format calls (initial_state small_chip ranged_format) ram).ram ≡ memory)
unfolding rising all_below list_below lowest_or better best_below big_endian number splice same_bytes first_reason return_code configuration_of accepted_bytes core_valid valid judged state_gate sheet_gate full_gate init set_controller_mode write main_function_write main_function_read main_function_mode tx_complete frame_arrived services.set_controller_mode polls.main_function_write polls.main_function_read polls.main_function_mode visit_all turn_all errors_all events.tx_complete events.best_object performed trace left_by object_bytes
ranged_lines = (refl, refl)
