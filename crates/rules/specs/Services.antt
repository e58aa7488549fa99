-- The services' part that looks at no frame. 01, "Services and polls", each with its reasons in the order of "Reasons for a no". The
-- calls themselves stand in Calls.
use Rattle.std.specs.Prelude.{ℕ, Bool, true, false, not, cond, ◌||◌, List, [], ◌∷◌, set, replicate, ltb}
use Rattle.rules.specs.Limits.{Limits}
use Rattle.rules.specs.Repeat.{all_below, list_below}
use Rattle.rules.specs.Mode.{STOPPED, NO_REQUEST, permitted}
use Rattle.rules.specs.Reason.{Check, ◌if◌, first_reason, ◌then◌, CAN_E_PARAM_HANDLE, CAN_E_PARAM_CONTROLLER, CAN_E_UNINIT, CAN_E_TRANSITION, NOT_STARTED, OBJECT_BUSY}
use Rattle.rules.specs.Errors.{Errors, no_errors, capped}
use Rattle.rules.specs.Core.{Controller, Owner, Mailbox, Core, idle_controller, empty_mailbox, controller_at, errors_at, mailbox_at, is_started, error_state, in_use, controller_of, names_pool, free_member, with_controllers, with_mailboxes}
use Rattle.rules.specs.Outcome.{Outcome, Question, of_mode, of_error_state, of_rx_errors, of_tx_errors, no_answer, told, service_report, rejected, accepted, judged}

-- the service numbers
abbrev pub INIT : ℕ
INIT = 0x00

abbrev pub SET_CONTROLLER_MODE : ℕ
SET_CONTROLLER_MODE = 0x03

abbrev pub WRITE : ℕ
WRITE = 0x06

abbrev pub DEINIT : ℕ
DEINIT = 0x10

abbrev pub GET_CONTROLLER_ERROR_STATE : ℕ
GET_CONTROLLER_ERROR_STATE = 0x11

abbrev pub GET_CONTROLLER_MODE : ℕ
GET_CONTROLLER_MODE = 0x12

abbrev pub GET_CONTROLLER_RX_ERROR_COUNTER : ℕ
GET_CONTROLLER_RX_ERROR_COUNTER = 0x30

abbrev pub GET_CONTROLLER_TX_ERROR_COUNTER : ℕ
GET_CONTROLLER_TX_ERROR_COUNTER = 0x31

-- Init

-- a controller in use after Init
abbrev pub stopped_controller : Controller
stopped_controller = record { mode = STOPPED; requested_mode = NO_REQUEST; bus_off = false }

-- "Init puts configured controllers in STOPPED", "nothing occupied or full"
abbrev pub configured_core : Limits → ℕ → ℕ → List Owner → Core
configured_core L controller_count object_count owners =
    record {
      initialised = true;
      controller_count = controller_count;
      object_count = object_count;
      owners = owners;
      controllers = list_below L.controllers (λ c. cond (ltb c controller_count) stopped_controller idle_controller);
      mailboxes = replicate L.objects empty_mailbox;
      errors = replicate L.controllers no_errors;
    }

-- DeInit

-- a controller is STARTED
abbrev pub some_started : Core → Bool
some_started core = not (all_below core.controller_count (λ c. not (is_started (controller_at core.controllers c))))

-- "DeInit: 6 if not initialised or a controller is STARTED."
abbrev pub deinit_checks : Core → List Check
deinit_checks core = CAN_E_TRANSITION if (not core.initialised || some_started core) ∷ []

-- SetControllerMode

-- "Set: 5, 4 (controller not below the configured count, here and everywhere), 6 (unknown mode or forbidden move)."
abbrev pub set_controller_mode_checks : Core → ℕ → ℕ → List Check
set_controller_mode_checks core c asked =
    CAN_E_UNINIT if not core.initialised
    ∷ CAN_E_PARAM_CONTROLLER if not (in_use core c)
    ∷ CAN_E_TRANSITION if not (permitted (controller_at core.controllers c).mode asked)
    ∷ []

-- "the request waits, replacing an earlier one"
abbrev pub with_request : ℕ → Controller → Controller
with_request asked k = record { mode = k.mode; requested_mode = asked; bus_off = k.bus_off }

abbrev pub mode_requested : Core → ℕ → ℕ → Core
mode_requested core c asked = with_controllers core (set core.controllers c (with_request asked (controller_at core.controllers c)))

-- "the request waits, replacing an earlier one; both are judged by the present mode"; gate is the reason that the call's gate found
unfoldable pub set_controller_mode : ℕ → Core → List ℕ → ℕ → ℕ → Outcome Core
set_controller_mode gate core ram c asked =
    judged (gate then first_reason (set_controller_mode_checks core c asked))
    (rejected (service_report SET_CONTROLLER_MODE) no_answer core ram)
    (accepted no_answer (mode_requested core c asked) ram [])

-- GetControllerMode, and the three questions of 02, Q-5, "checked as Get is"

abbrev pub question_service : Question → ℕ
question_service of_mode = GET_CONTROLLER_MODE
question_service of_error_state = GET_CONTROLLER_ERROR_STATE
question_service of_rx_errors = GET_CONTROLLER_RX_ERROR_COUNTER
question_service of_tx_errors = GET_CONTROLLER_TX_ERROR_COUNTER

-- GetControllerMode "answers the mode"; "the state (0 active, 1 passive, 2 bus-off) and the receive and transmit counts capped at 255"
abbrev pub answer_to : Question → Controller → Errors → ℕ
answer_to of_mode k e = k.mode
answer_to of_error_state k e = error_state k e
answer_to of_rx_errors k e = capped e.rx_errors
answer_to of_tx_errors k e = capped e.tx_errors

-- "Get: 5, 4."
abbrev pub ask_controller_checks : Core → ℕ → List Check
ask_controller_checks core c = CAN_E_UNINIT if not core.initialised ∷ CAN_E_PARAM_CONTROLLER if not (in_use core c) ∷ []

-- "and 0 with a no"; gate is the reason that the call's gate found
unfoldable pub ask_controller : ℕ → Question → Core → List ℕ → ℕ → Outcome Core
ask_controller gate q core ram c =
    judged (gate then first_reason (ask_controller_checks core c))
    (rejected (service_report (question_service q)) (told q 0) core ram)
    (accepted (told q (answer_to q (controller_at core.controllers c) (errors_at core.errors c))) core ram [])

-- Write

-- "Write: 5, 2 (not a configured sending object) .."; 02: "Write names the pool by its lowest object; another member gives 2."
abbrev pub sending_checks : Core → ℕ → List Check
sending_checks core h = CAN_E_UNINIT if not core.initialised ∷ CAN_E_PARAM_HANDLE if not (names_pool core h) ∷ []

-- ".. 35, 36."; 02: "36 exactly if none is free", and then the free member is h itself, occupied
abbrev pub free_checks : Core → ℕ → List Check
free_checks core h =
    NOT_STARTED if not (is_started (controller_of core h)) ∷ OBJECT_BUSY if (mailbox_at core.mailboxes (free_member core h)).tx_pending ∷ []

-- between them stands the reason that the frame gives
abbrev pub write_reason : Core → ℕ → ℕ → ℕ
write_reason core h frame = first_reason (sending_checks core h) then frame then first_reason (free_checks core h)

-- "the object is occupied"
abbrev pub written_mailbox : Mailbox
written_mailbox = record { tx_pending = true; tx_done = false; rx_full = false }

-- the core once object h has taken a write
abbrev pub taken : Core → ℕ → Core
taken core h = with_mailboxes core (set core.mailboxes h written_mailbox)
