-- The calls on the driver state, in the order of 01, with 02's questions, error counts and choice of who sends next. Each is a gate (41, 32,
-- 33), then its part on the core (Services, Polls, Events). Init and DeInit set what is configured of frames besides, Write and Arrived judge a frame and lay it down.
use Rattle.std.specs.Prelude.{ℕ, Bool, true, false, not, List, [], ◌∷◌, replicate}
use Rattle.std.proofs.Math.Option.{Option, none, some}
use Rattle.rules.specs.Limits.{Limits, ram_size, object_start}
use Rattle.rules.specs.Format.{Format}
use Rattle.rules.specs.Bytes.{splice}
use Rattle.rules.specs.Notification.{data_lost}
use Rattle.rules.specs.Reason.{Check, ◌if◌, first_reason, ◌then◌, CAN_E_TRANSITION, CAN_E_INIT_FAILED}
use Rattle.rules.specs.Configuration.{Configuration, settings_at, configuration_of, accepted_bytes}
use Rattle.rules.specs.Core.{free_member}
use Rattle.rules.specs.State.{State, with_core, initial_state}
use Rattle.rules.specs.Outcome.{Outcome, Question, no_answer, taken_by, stored_in, unwanted, lost, service_report, no_report, rejected, accepted, judged, lifted, state_gate, sheet_gate, full_gate, ram_gate}
use Rattle.rules.specs.Services as services
use Rattle.rules.specs.Services.{INIT, DEINIT, WRITE, configured_core, deinit_checks, write_reason, taken}
use Rattle.rules.specs.Polls as polls
use Rattle.rules.specs.Events as events
use Rattle.rules.specs.Events.{on_bus_checks, filled}

module _ (L : Limits) (F : Format) where
  -- Services

  -- "Init: 6 if initialised, 9 if the configuration is bad."
  abbrev pub init_checks : State F → List ℕ → List Check
  init_checks s bytes = CAN_E_TRANSITION if s.core.initialised ∷ CAN_E_INIT_FAILED if not (accepted_bytes L F bytes) ∷ []

  -- "Init puts configured controllers in STOPPED", "nothing occupied or full"
  abbrev pub configured_state : Configuration F → State F
  configured_state c = record { core = configured_core L c.controller_count c.object_count c.owners; settings = c.settings }

  abbrev pub zero_ram : List ℕ
  zero_ram = replicate (ram_size L) 0

  -- "memory all zero, nothing occupied or full, no record"
  unfoldable pub init : State F → ℕ → List ℕ → List ℕ → Outcome (State F)
  init s sheet ram bytes =
      judged (full_gate L F s sheet ram then first_reason (init_checks s bytes))
      (rejected (service_report INIT) no_answer s ram)
      (accepted no_answer (configured_state (configuration_of L F bytes)) zero_ram [])

  -- "likewise, state at rest"
  unfoldable pub deinit : State F → ℕ → List ℕ → Outcome (State F)
  deinit s sheet ram =
      judged (full_gate L F s sheet ram then first_reason (deinit_checks s.core))
      (rejected (service_report DEINIT) no_answer s ram)
      (accepted no_answer (initial_state L F) zero_ram [])

  -- "the request waits, replacing an earlier one; both are judged by the present mode"
  unfoldable pub set_controller_mode : State F → ℕ → List ℕ → ℕ → ℕ → Outcome (State F)
  set_controller_mode s sheet ram c asked = lifted s (services.set_controller_mode (sheet_gate L F s sheet) s.core ram c asked)

  -- GetControllerMode "answers the mode, and 0 with a no"; 02, Q-5: 0x11, 0x30 and 0x31, "checked as Get is"
  unfoldable pub ask_controller : Question → State F → ℕ → List ℕ → ℕ → Outcome (State F)
  ask_controller q s sheet ram c = lifted s (services.ask_controller (sheet_gate L F s sheet) q s.core ram c)

  -- the settings of object h
  abbrev pub settings_of_object : State F → ℕ → F.Settings
  settings_of_object s h = settings_at F s.settings h

  -- "3 (classic above 8, FD above 64, or FD to a payload of 8), 34": what the format finds in the frame
  abbrev pub frame_reason : State F → ℕ → F.Frame → ℕ
  frame_reason s h frame = first_reason (F.write_checks (settings_of_object s h) frame)

  -- the memory with a frame laid down in object h
  abbrev pub laid_down : State F → List ℕ → ℕ → ℕ → F.Frame → List ℕ
  laid_down s ram h handle frame = splice (object_start L h) (F.object_bytes (settings_of_object s h) handle frame) ram

  -- "Write: 5, 2 .., 3 .., 34, 35, 36." "On success the 72 bytes are laid down whole and the object is occupied."; 02: "It takes the lowest
  -- free member, answers which"; gate is the reason that the call's gate found
  abbrev pub written : ℕ → State F → List ℕ → ℕ → ℕ → F.Frame → Outcome (State F)
  written gate s ram h handle frame =
      let m = free_member s.core h in
      judged (gate then write_reason s.core h (frame_reason s h frame))
      (rejected (service_report WRITE) no_answer s ram)
      (accepted (taken_by m) (with_core s (taken s.core m)) (laid_down s ram m handle frame) [])

  unfoldable pub write : State F → ℕ → List ℕ → ℕ → ℕ → F.Frame → Outcome (State F)
  write s sheet ram h handle frame = written (full_gate L F s sheet ram) s ram h handle frame

  -- Polls

  -- "each gone object in rising order is confirmed and freed"
  unfoldable pub main_function_write : State F → ℕ → List ℕ → Outcome (State F)
  main_function_write s sheet ram = lifted s (polls.main_function_write L.object_size (full_gate L F s sheet ram) s.core ram)

  -- "each full object in rising order is indicated and emptied"
  unfoldable pub main_function_read : State F → ℕ → List ℕ → Outcome (State F)
  main_function_read s sheet ram = lifted s (polls.main_function_read L.object_size L.length_size (full_gate L F s sheet ram) s.core ram)

  -- "controllers in rising order, skipping those marked off-bus"
  unfoldable pub main_function_mode : State F → ℕ → List ℕ → Outcome (State F)
  main_function_mode s sheet ram = lifted s (polls.main_function_mode L.object_size (full_gate L F s sheet ram) s.core ram)

  -- "for each marked controller, rising"
  unfoldable pub main_function_bus_off : State F → ℕ → List ℕ → Outcome (State F)
  main_function_bus_off s sheet ram = lifted s (polls.main_function_bus_off L.object_size (full_gate L F s sheet ram) s.core ram)

  -- Bench events

  -- "Sent(object) marks it gone."
  unfoldable pub tx_complete : State F → List ℕ → ℕ → Outcome (State F)
  tx_complete s ram h = lifted s (events.tx_complete (state_gate L F s) s.core ram h)

  -- "Bus-off(controller) sets the mark."
  unfoldable pub bus_off_detected : State F → List ℕ → ℕ → Outcome (State F)
  bus_off_detected s ram c = lifted s (events.bus_off_detected (state_gate L F s) s.core ram c)

  -- 02, Q-5: "A new event, which takes the sheet, sets both to given numbers"
  unfoldable pub errors_counted : State F → ℕ → List ℕ → ℕ → ℕ → ℕ → Outcome (State F)
  errors_counted s sheet ram c tx rx = lifted s (events.errors_counted (sheet_gate L F s sheet) s.core ram c tx rx)

  -- the object that fits best among the full ones (true) or the empty ones (false)
  abbrev pub best_object : State F → ℕ → F.Frame → Bool → Option ℕ
  best_object s c frame full =
      events.best_object s.core c (λ h. F.accepts (settings_of_object s h) frame) (λ h. F.rank (settings_of_object s h)) full

  -- "It is stored in the lowest-numbered empty object that fits, handle zero."
  abbrev pub stored : State F → List ℕ → F.Frame → ℕ → Outcome (State F)
  stored s ram frame h = accepted (stored_in h) (with_core s (filled s.core h)) (laid_down s ram h 0 frame) []

  -- "If lost, the lowest that fits is named in a runtime record and memory is unchanged"; "unwanted changes and writes nothing"
  abbrev pub not_stored : State F → List ℕ → Option ℕ → Outcome (State F)
  not_stored s ram none = accepted unwanted s ram []
  not_stored s ram (some h) = accepted lost s ram (data_lost h ∷ [])

  abbrev pub received : State F → List ℕ → ℕ → F.Frame → Option ℕ → Outcome (State F)
  received s ram c frame none = not_stored s ram (best_object s c frame true)
  received s ram c frame (some h) = stored s ram frame h

  -- "Arrived: 5, 4, 35, 37, 34, 40.": what its controller gives, then what the format finds in the frame
  abbrev pub arrival_reason : State F → ℕ → F.Frame → ℕ
  arrival_reason s c frame = first_reason (on_bus_checks s.core c) then first_reason (F.arrival_checks frame)

  -- "Arrived(controller, identifier, data)"; gate is the reason that the call's gate found
  abbrev pub arrived : ℕ → State F → List ℕ → ℕ → F.Frame → Outcome (State F)
  arrived gate s ram c frame =
      judged (gate then arrival_reason s c frame)
      (rejected no_report no_answer s ram)
      (received s ram c frame (best_object s c frame false))

  unfoldable pub frame_arrived : State F → ℕ → List ℕ → ℕ → F.Frame → Outcome (State F)
  frame_arrived s sheet ram c frame = arrived (full_gate L F s sheet ram) s ram c frame

  -- 02, Q-2: "the bench's choice of who sends next on a controller", by the identifiers in the memory lent
  unfoldable pub next_to_send : State F → List ℕ → ℕ → Outcome (State F)
  next_to_send s ram c = lifted s (events.next_to_send (ram_gate L F s ram) s.core ram c (λ h. F.priority (polls.object_in L.object_size ram h)))
