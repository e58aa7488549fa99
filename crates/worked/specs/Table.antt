-- 01, "Played by hand": the lines with * as one table, proved by computation. "P1 to P11 are one sequence", from the state before
-- initialisation; P10 has no * and stands here because it belongs to the sequence. 02, Q-4, "P8 and P11 stand; add the mixed case": a
-- second sequence, in a table of its own. A third has the thresholds of 02, Q-5, on both sides.
use Rattle.std.specs.Prelude.{ℕ, ◌≡◌, refl, List, [], ◌∷◌, ◌++◌, map, take, replicate}
use Rattle.rules.specs.Limits.{sheet_size, ram_size}
use Rattle.rules.specs.Repeat.{rising, all_below, list_below, lowest_or, better, best_below}
use Rattle.rules.specs.Bytes.{big_endian, number, splice, same_bytes}
use Rattle.rules.specs.Notification.{words}
use Rattle.rules.specs.Reason.{first_reason, return_code}
use Rattle.rules.specs.Mode.{STARTED, STOPPED}
use Rattle.rules.specs.Core.{controller_at, core_valid}
use Rattle.rules.specs.Configuration.{configuration_of, accepted_bytes}
use Rattle.rules.specs.State.{State, valid, initial_state}
use Rattle.rules.specs.Outcome.{Outcome, Question, of_error_state, of_rx_errors, of_tx_errors, Answer, no_answer, told, taken_by, stored_in, unwanted, lost, judged, state_gate, sheet_gate, full_gate}
use Rattle.rules.specs.Services as services
use Rattle.rules.specs.Polls as polls
use Rattle.rules.specs.Polls.{visit_all, turn_all, errors_all}
use Rattle.rules.specs.Events as events
use Rattle.rules.specs.Calls.{init, set_controller_mode, ask_controller, write, main_function_write, main_function_read, main_function_mode, main_function_bus_off, tx_complete, bus_off_detected, errors_counted, frame_arrived}
use Rattle.rules.specs.Can.{can_format, next_length, lengths_below, object_bytes}
use Rattle.rules.specs.Chip.{chip}

-- what a line says of one call: its return code, reason, answer and records, and after it the mode of controller 0 and the bytes of object 0
pub record Line : Type 0 where
  pub code : ℕ
  pub reason : ℕ
  pub answer : Answer
  pub records : List (List ℕ)
  pub mode : ℕ
  pub object_0 : List ℕ

-- a call by the rules, handed the state and the memory
abbrev pub Call : Type 0
Call = State can_format → List ℕ → Outcome (State can_format)

-- a call, and the line that it must give
pub record Row : Type 0 where
  pub call : Call
  pub line : Line

-- what the rules say of a call
pub seen : Outcome (State can_format) → Line
seen o =
    record {
      code = o.code;
      reason = o.reason;
      answer = o.answer;
      records = map words o.notifications;
      mode = (controller_at o.state.core.controllers 0).mode;
      object_0 = take chip.object_size o.ram;
    }

-- each call is handed the state and the memory that the last one left
pub played : List Row → State can_format → List ℕ → List Line
played [] s ram = []
played (r ∷ rs) s ram = let o = r.call s ram in seen o ∷ played rs o.state o.ram

-- The calls

sheet : ℕ
sheet = sheet_size chip

-- "Configuration K"
K : List ℕ
K =
    0x43 ∷ 0x48 ∷ 0x42 ∷ 0x00 ∷ 0x01 ∷ 0x01 ∷ 0x02 ∷ 0x00
    ∷ 0x00 ∷ 0x00 ∷ 0x40 ∷ 0xCC ∷ 0x00 ∷ 0x00 ∷ 0x00 ∷ 0x00 ∷ 0x00 ∷ 0x00 ∷ 0x00 ∷ 0x00
    ∷ 0x00 ∷ 0x01 ∷ 0x08 ∷ 0x00 ∷ 0x00 ∷ 0x00 ∷ 0x01 ∷ 0x20 ∷ 0x00 ∷ 0x00 ∷ 0x07 ∷ 0xFF ∷ []

init_K : Call
init_K s ram = init chip can_format s sheet ram K

-- one controller, and objects 0, 1 and 2 that send as object 0 of K does
three_senders : List ℕ
three_senders =
    0x43 ∷ 0x48 ∷ 0x42 ∷ 0x00 ∷ 0x01 ∷ 0x01 ∷ 0x03 ∷ 0x00
    ∷ 0x00 ∷ 0x00 ∷ 0x40 ∷ 0xCC ∷ 0x00 ∷ 0x00 ∷ 0x00 ∷ 0x00 ∷ 0x00 ∷ 0x00 ∷ 0x00 ∷ 0x00
    ∷ 0x00 ∷ 0x00 ∷ 0x40 ∷ 0xCC ∷ 0x00 ∷ 0x00 ∷ 0x00 ∷ 0x00 ∷ 0x00 ∷ 0x00 ∷ 0x00 ∷ 0x00
    ∷ 0x00 ∷ 0x00 ∷ 0x40 ∷ 0xCC ∷ 0x00 ∷ 0x00 ∷ 0x00 ∷ 0x00 ∷ 0x00 ∷ 0x00 ∷ 0x00 ∷ 0x00 ∷ []

init_three : Call
init_three s ram = init chip can_format s sheet ram three_senders

-- object, handle; "40000123, bytes 01 to 09"
write_to : ℕ → ℕ → Call
write_to h handle s ram =
    write chip can_format s sheet ram h handle
    (record { identifier = 0x40000123; sdu = 0x01 ∷ 0x02 ∷ 0x03 ∷ 0x04 ∷ 0x05 ∷ 0x06 ∷ 0x07 ∷ 0x08 ∷ 0x09 ∷ [] })

-- "write object 0, handle 7, 40000123, bytes 01 to 09"
write_P5 : Call
write_P5 = write_to 0 7

ask : ℕ → Call
ask mode s ram = set_controller_mode chip can_format s sheet ram 0 mode

sent : ℕ → Call
sent h s ram = tx_complete chip can_format s ram h

bus_off : Call
bus_off s ram = bus_off_detected chip can_format s ram 0

-- 8 bytes
arrived : ℕ → Call
arrived identifier s ram = frame_arrived chip can_format s sheet ram 0 (record { identifier = identifier; sdu = replicate 8 0x55 })

write_poll : Call
write_poll s ram = main_function_write chip can_format s sheet ram

read_poll : Call
read_poll s ram = main_function_read chip can_format s sheet ram

mode_poll : Call
mode_poll s ram = main_function_mode chip can_format s sheet ram

bus_off_poll : Call
bus_off_poll s ram = main_function_bus_off chip can_format s sheet ram

-- transmit and receive count of controller 0, and a question of it
counts : ℕ → ℕ → Call
counts tx rx s ram = errors_counted chip can_format s sheet ram 0 tx rx

question : Question → Call
question q s ram = ask_controller chip can_format q s sheet ram 0

-- The lines

-- object 0 before the first write
blank : List ℕ
blank = replicate 72 0

-- "memory begins 40 00 01 23 0C 09 00 07 01 02 03 04 05 06 07 08 09 CC CC CC, then 52 zeros"
laid_down : List ℕ
laid_down =
    (0x40 ∷ 0x00 ∷ 0x01 ∷ 0x23 ∷ 0x0C ∷ 0x09 ∷ 0x00 ∷ 0x07
    ∷ 0x01 ∷ 0x02 ∷ 0x03 ∷ 0x04 ∷ 0x05 ∷ 0x06 ∷ 0x07 ∷ 0x08 ∷ 0x09 ∷ 0xCC ∷ 0xCC ∷ 0xCC ∷ [])
    ++ replicate 52 0

-- a record of the paper: its four words
words_are : ℕ → ℕ → ℕ → ℕ → List ℕ
words_are a b c d = a ∷ b ∷ c ∷ d ∷ []

-- return code, reason, answer, records; then the mode of controller 0, and the bytes of object 0
line : ℕ → ℕ → Answer → List (List ℕ) → ℕ → List ℕ → Line
line code reason answer records mode object_0 =
    record { code = code; reason = reason; answer = answer; records = records; mode = mode; object_0 = object_0 }

infix 70 ◌gives◌
◌gives◌ : Call → Line → Row
c gives l = record { call = c; line = l }

pub table : List Row
table =
    -- P1* "K accepted, mode 2."
    init_K gives line 0 0 no_answer [] 2 blank
    -- P2* "write as P5 at once: 35."
    ∷ write_P5 gives line 1 35 no_answer [] 2 blank
    -- P3* "ask STARTED, mode poll: 3,0,1,0."
    ∷ ask STARTED gives line 0 0 no_answer [] 2 blank
    ∷ mode_poll gives line 0 0 no_answer (words_are 3 0 1 0 ∷ []) 1 blank
    -- P4* "ask STARTED again: 6, record 5,3,6,0."
    ∷ ask STARTED gives line 1 6 no_answer (words_are 5 3 6 0 ∷ []) 1 blank
    -- P5* "write object 0, handle 7, 40000123, bytes 01 to 09: memory begins 40 00 01 23 .."
    ∷ write_P5 gives line 0 0 (taken_by 0) [] 1 laid_down
    -- P6* "again: code 2, reason 36."
    ∷ write_P5 gives line 2 36 no_answer [] 1 laid_down
    -- P7* "sent, write poll: 1,0,7,0; the next poll writes nothing."
    ∷ sent 0 gives line 0 0 no_answer [] 1 laid_down
    ∷ write_poll gives line 0 0 no_answer (words_are 1 0 7 0 ∷ []) 1 laid_down
    ∷ write_poll gives line 0 0 no_answer [] 1 laid_down
    -- P8* "write as P5, ask STOPPED, mode poll, all records: 7,0,7,0, 3,0,2,0. Sent then: 38."
    ∷ write_P5 gives line 0 0 (taken_by 0) [] 1 laid_down
    ∷ ask STOPPED gives line 0 0 no_answer [] 1 laid_down
    ∷ mode_poll gives line 0 0 no_answer (words_are 7 0 7 0 ∷ words_are 3 0 2 0 ∷ []) 2 laid_down
    ∷ sent 0 gives line 1 38 no_answer [] 2 laid_down
    -- P9* "ask STARTED, mode poll; arrived 00000120, 8 bytes, twice: object 1, then 6,1,1,0. Read poll: 2,1,288,8."
    ∷ ask STARTED gives line 0 0 no_answer [] 2 laid_down
    ∷ mode_poll gives line 0 0 no_answer (words_are 3 0 1 0 ∷ []) 1 laid_down
    ∷ arrived 0x00000120 gives line 0 0 (stored_in 1) [] 1 laid_down
    ∷ arrived 0x00000120 gives line 0 0 lost (words_are 6 1 1 0 ∷ []) 1 laid_down
    ∷ read_poll gives line 0 0 no_answer (words_are 2 1 288 8 ∷ []) 1 laid_down
    -- P10 "arrived 40000120, 8 bytes: unwanted."
    ∷ arrived 0x40000120 gives line 0 0 unwanted [] 1 laid_down
    -- P11* "bus-off, write as P5, bus-off poll: 7,0,7,0, 4,0,0,0, mode 2."
    ∷ bus_off gives line 0 0 no_answer [] 1 laid_down
    ∷ write_P5 gives line 0 0 (taken_by 0) [] 1 laid_down
    ∷ bus_off_poll gives line 0 0 no_answer (words_are 7 0 7 0 ∷ words_are 4 0 0 0 ∷ []) 2 laid_down
    ∷ []

-- started, objects 0, 1 and 2 written, and object 1 sent; with the bytes of object 0 before that
sent_and_unsent : List ℕ → List Row
sent_and_unsent object_0 =
    ask STARTED gives line 0 0 no_answer [] 2 object_0
    ∷ mode_poll gives line 0 0 no_answer (words_are 3 0 1 0 ∷ []) 1 object_0
    ∷ write_to 0 7 gives line 0 0 (taken_by 0) [] 1 laid_down
    ∷ write_to 1 8 gives line 0 0 (taken_by 1) [] 1 laid_down
    ∷ write_to 2 9 gives line 0 0 (taken_by 2) [] 1 laid_down
    ∷ sent 1 gives line 0 0 no_answer [] 1 laid_down
    ∷ []

-- "an occupied object that is gone gets its confirmation (kind 1) at its place in the rising order, the others a cancellation."
pub mixed : List Row
mixed =
    (init_three gives line 0 0 no_answer [] 2 blank ∷ sent_and_unsent blank)
    -- at a stop; then the write poll has nothing to confirm
    ++ (ask STOPPED gives line 0 0 no_answer [] 1 laid_down
    ∷ mode_poll gives line 0 0 no_answer (words_are 7 0 7 0 ∷ words_are 1 1 8 0 ∷ words_are 7 2 9 0 ∷ words_are 3 0 2 0 ∷ []) 2 laid_down
    ∷ write_poll gives line 0 0 no_answer [] 2 laid_down
    ∷ sent_and_unsent laid_down)
    -- at a bus-off
    ++ (bus_off gives line 0 0 no_answer [] 1 laid_down
    ∷ bus_off_poll gives line 0 0 no_answer (words_are 7 0 7 0 ∷ words_are 1 1 8 0 ∷ words_are 7 2 9 0 ∷ words_are 4 0 0 0 ∷ []) 2 laid_down
    ∷ write_poll gives line 0 0 no_answer [] 2 laid_down
    ∷ [])

-- a question of controller 0, in this mode, and its answer
tells : Question → ℕ → ℕ → Row
tells q mode n = question q gives line 0 0 (told q n) [] mode blank

-- "error passive where either count is above 127 and bus-off where the transmit count is above 255", "up to 65,535"
pub thresholds : List Row
thresholds =
    init_K gives line 0 0 no_answer [] 2 blank
    ∷ tells of_error_state 2 0
    ∷ counts 0 0 gives line 1 35 no_answer [] 2 blank
    ∷ ask STARTED gives line 0 0 no_answer [] 2 blank
    ∷ mode_poll gives line 0 0 no_answer (words_are 3 0 1 0 ∷ []) 1 blank
    -- the transmit count: active up to 127, passive up to 255, told on entering alone
    ∷ counts 127 127 gives line 0 0 no_answer [] 1 blank
    ∷ tells of_error_state 1 0
    ∷ counts 128 127 gives line 0 0 no_answer (words_are 8 0 128 127 ∷ []) 1 blank
    ∷ tells of_error_state 1 1
    ∷ counts 255 128 gives line 0 0 no_answer [] 1 blank
    ∷ tells of_error_state 1 1
    ∷ tells of_tx_errors 1 255
    ∷ tells of_rx_errors 1 128
    -- the receive count: passive from 128 on, whatever it is; the record and the answer have 255 at most
    ∷ counts 127 127 gives line 0 0 no_answer [] 1 blank
    ∷ counts 127 128 gives line 0 0 no_answer (words_are 8 0 127 128 ∷ []) 1 blank
    ∷ counts 0 0 gives line 0 0 no_answer [] 1 blank
    ∷ counts 0 65535 gives line 0 0 no_answer (words_are 8 0 0 255 ∷ []) 1 blank
    ∷ tells of_error_state 1 1
    ∷ tells of_rx_errors 1 255
    -- larger numbers change nothing
    ∷ counts 0 65536 gives line 1 43 no_answer [] 1 blank
    ∷ counts 65536 0 gives line 1 43 no_answer [] 1 blank
    ∷ tells of_tx_errors 1 0
    -- bus-off from active is no entering of passive; the mark stands, then the second one, until STARTED
    ∷ counts 0 0 gives line 0 0 no_answer [] 1 blank
    ∷ counts 256 0 gives line 0 0 no_answer [] 1 blank
    ∷ tells of_error_state 1 2
    ∷ tells of_tx_errors 1 255
    ∷ counts 0 0 gives line 1 37 no_answer [] 1 blank
    ∷ bus_off_poll gives line 0 0 no_answer (words_are 4 0 0 0 ∷ []) 2 blank
    ∷ tells of_error_state 2 2
    ∷ tells of_tx_errors 2 255
    ∷ ask STARTED gives line 0 0 no_answer [] 2 blank
    ∷ mode_poll gives line 0 0 no_answer (words_are 3 0 1 0 ∷ []) 1 blank
    ∷ tells of_error_state 1 0
    ∷ tells of_tx_errors 1 0
    ∷ counts 65535 0 gives line 0 0 no_answer [] 1 blank
    ∷ tells of_error_state 1 2
    ∷ []

-- Played by the rules, each call of a table gives its line. The first memory has the right size and holds 0xAA everywhere, which Init
-- clears.
abbrev pub Played : List Row → Type 0
Played rows = played rows (initial_state chip can_format) (replicate (ram_size chip) 0xAA) ≡ map (λ r. r.line) rows

pub worked_lines : Played table
unfolding played seen sheet K init_K write_to write_P5 ask sent bus_off arrived write_poll read_poll mode_poll bus_off_poll blank laid_down words_are line ◌gives◌ table rising all_below list_below lowest_or better best_below big_endian number splice same_bytes words first_reason return_code configuration_of accepted_bytes core_valid valid judged state_gate sheet_gate full_gate init set_controller_mode write main_function_write main_function_read main_function_mode main_function_bus_off tx_complete bus_off_detected frame_arrived services.set_controller_mode polls.main_function_write polls.main_function_read polls.main_function_mode polls.main_function_bus_off visit_all turn_all errors_all events.tx_complete events.bus_off_detected events.best_object next_length lengths_below object_bytes
worked_lines = refl

pub mixed_lines : Played mixed
unfolding played seen sheet three_senders init_three write_to ask sent bus_off write_poll mode_poll bus_off_poll blank laid_down words_are line ◌gives◌ sent_and_unsent mixed rising all_below list_below lowest_or better best_below big_endian number splice same_bytes words first_reason return_code configuration_of accepted_bytes core_valid valid judged state_gate sheet_gate full_gate init set_controller_mode write main_function_write main_function_read main_function_mode main_function_bus_off tx_complete bus_off_detected frame_arrived services.set_controller_mode polls.main_function_write polls.main_function_read polls.main_function_mode polls.main_function_bus_off visit_all turn_all errors_all events.tx_complete events.bus_off_detected events.best_object next_length lengths_below object_bytes
mixed_lines = refl

pub threshold_lines : Played thresholds
unfolding played seen sheet K init_K ask counts question tells mode_poll bus_off_poll blank words_are line ◌gives◌ thresholds rising all_below list_below lowest_or better best_below big_endian number splice same_bytes words first_reason return_code configuration_of accepted_bytes core_valid valid judged state_gate sheet_gate full_gate init set_controller_mode main_function_mode main_function_bus_off errors_counted ask_controller services.set_controller_mode services.ask_controller polls.main_function_mode polls.main_function_bus_off visit_all turn_all errors_all events.errors_counted
threshold_lines = refl
