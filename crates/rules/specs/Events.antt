-- The bench events' part that looks at no frame. 01, "Bench events". The calls themselves stand in Calls.
use Rattle.std.specs.Prelude.{ℕ, Bool, true, false, not, cond, ◌&&◌, List, [], ◌∷◌, set, eqb}
use Rattle.std.specs.Bool.{beq}
use Rattle.std.proofs.Math.Option.{Option, none}
use Rattle.rules.specs.Repeat.{best_below}
use Rattle.rules.specs.Reason.{Check, ◌if◌, first_reason, ◌then◌, CAN_E_PARAM_HANDLE, CAN_E_PARAM_CONTROLLER, CAN_E_UNINIT, NOT_STARTED, BUS_OFF, NOTHING_TO_SEND, ERROR_COUNT_TOO_LARGE}
use Rattle.rules.specs.Notification.{Notification, error_passive_indication}
use Rattle.rules.specs.Errors.{Errors, within_limit, above_bus_off, capped, ERRORSTATE_ACTIVE, ERRORSTATE_PASSIVE}
use Rattle.rules.specs.Core.{Controller, Owner, Mailbox, Core, controller_at, errors_at, owner_at, mailbox_at, is_started, error_state, in_use, is_sending, controller_of, with_controllers, with_mailboxes, with_errors}
use Rattle.rules.specs.Outcome.{Outcome, no_answer, sends_next, no_report, rejected, accepted, judged}

-- Sent

-- 38: "no unsent frame in the object"
abbrev pub has_unsent : Mailbox → Bool
has_unsent m = m.tx_pending && not m.tx_done

-- "Sent: 5, 2, 38, 37."
abbrev pub tx_complete_checks : Core → ℕ → List Check
tx_complete_checks core h =
    CAN_E_UNINIT if not core.initialised
    ∷ CAN_E_PARAM_HANDLE if not (is_sending core h)
    ∷ NOTHING_TO_SEND if not (has_unsent (mailbox_at core.mailboxes h))
    ∷ BUS_OFF if (controller_of core h).bus_off
    ∷ []

-- "marks it gone"
abbrev pub sent_mailbox : Mailbox
sent_mailbox = record { tx_pending = true; tx_done = true; rx_full = false }

-- "Sent(object) marks it gone."; gate is the reason that the call's gate found
unfoldable pub tx_complete : ℕ → Core → List ℕ → ℕ → Outcome Core
tx_complete gate core ram h =
    judged (gate then first_reason (tx_complete_checks core h))
    (rejected no_report no_answer core ram)
    (accepted no_answer (with_mailboxes core (set core.mailboxes h sent_mailbox)) ram [])

-- Bus-off

-- "Bus-off: 5, 4, 35, 37.", with which Arrived begins too: the controller takes part in the bus
abbrev pub on_bus_checks : Core → ℕ → List Check
on_bus_checks core c =
    CAN_E_UNINIT if not core.initialised
    ∷ CAN_E_PARAM_CONTROLLER if not (in_use core c)
    ∷ NOT_STARTED if not (is_started (controller_at core.controllers c))
    ∷ BUS_OFF if (controller_at core.controllers c).bus_off
    ∷ []

-- "sets the mark"
abbrev pub marked_bus_off : Controller → Controller
marked_bus_off k = record { mode = k.mode; requested_mode = k.requested_mode; bus_off = true }

-- "Bus-off(controller) sets the mark."
unfoldable pub bus_off_detected : ℕ → Core → List ℕ → ℕ → Outcome Core
bus_off_detected gate core ram c =
    judged (gate then first_reason (on_bus_checks core c))
    (rejected no_report no_answer core ram)
    (accepted no_answer (with_controllers core (set core.controllers c (marked_bus_off (controller_at core.controllers c)))) ram [])

-- Error counts. 02, Q-5: "A new event .. sets both to given numbers up to 65,535"

-- "41, 32, 5, 4, 35, 37, and 43 for a larger number"
abbrev pub errors_counted_reason : Core → ℕ → ℕ → ℕ → ℕ
errors_counted_reason core c tx rx =
    first_reason (on_bus_checks core c) then first_reason (ERROR_COUNT_TOO_LARGE if not (within_limit tx rx) ∷ [])

-- "bus-off where the transmit count is above 255; the event then sets the off-bus mark itself"
abbrev pub counted_controller : ℕ → Controller → Controller
counted_controller tx k = cond (above_bus_off tx) (marked_bus_off k) k

-- "sets both"
abbrev pub counted_errors : ℕ → ℕ → Errors → Errors
counted_errors tx rx e = record { recovering = e.recovering; tx_errors = tx; rx_errors = rx }

-- "Entering passive from active"
abbrev pub enters_passive : ℕ → ℕ → Controller → Errors → Bool
enters_passive tx rx k e =
    eqb (error_state k e) ERRORSTATE_ACTIVE && eqb (error_state (counted_controller tx k) (counted_errors tx rx e)) ERRORSTATE_PASSIVE

-- ".. writes a record of a new kind 8: controller, transmit count, receive count, each at most 255"
abbrev pub passive_report : ℕ → ℕ → ℕ → Controller → Errors → List Notification
passive_report c tx rx k e = cond (enters_passive tx rx k e) (error_passive_indication c (capped tx) (capped rx) ∷ []) []

unfoldable pub errors_counted : ℕ → Core → List ℕ → ℕ → ℕ → ℕ → Outcome Core
errors_counted gate core ram c tx rx =
    let k = controller_at core.controllers c in
    let e = errors_at core.errors c in
    judged (gate then errors_counted_reason core c tx rx)
    (rejected no_report no_answer core ram)
    (accepted no_answer
    (with_errors (with_controllers core (set core.controllers c (counted_controller tx k))) (set core.errors c (counted_errors tx rx e)))
    ram (passive_report c tx rx k e))

-- Arrived: the choice of its object. The frame is known by what accepts it, and by the rank of each object that does.

-- "A receiving object fits a frame if the controllers agree" and its filter accepts the frame
abbrev pub fits_frame : ℕ → Owner → Bool → Bool
fits_frame c o accepts = o.receiving && eqb o.controller c && accepts

-- the object in use that fits best among the full ones (true) or the empty ones (false), the lowest among equals
unfoldable pub best_object : Core → ℕ → (ℕ → Bool) → (ℕ → ℕ) → Bool → Option ℕ
best_object core c accepts rank full =
    best_below core.object_count
    (λ h. fits_frame c (owner_at core.owners h) (accepts h) && beq (mailbox_at core.mailboxes h).rx_full full)
    rank

-- a received frame waits to be read
abbrev pub filled_mailbox : Mailbox
filled_mailbox = record { tx_pending = false; tx_done = false; rx_full = true }

-- the core once an arrival is stored in object h
abbrev pub filled : Core → ℕ → Core
filled core h = with_mailboxes core (set core.mailboxes h filled_mailbox)

-- Who sends next. 02, Q-2: "the bench's choice of who sends next on a controller". A frame is known by its rank.

-- object h waits to be sent on controller c: "gone objects don't compete"
abbrev pub competes : Core → ℕ → ℕ → Bool
competes core c h = eqb (owner_at core.owners h).controller c && has_unsent (mailbox_at core.mailboxes h)

-- ""none" exactly if nobody waits or the controller is off-bus"; else the object with the highest rank, "then the lower object"
unfoldable pub next_object : Core → ℕ → (ℕ → ℕ) → Option ℕ
next_object core c rank = cond (controller_at core.controllers c).bus_off none (best_below core.object_count (competes core c) rank)

-- "5, 4"
abbrev pub next_to_send_checks : Core → ℕ → List Check
next_to_send_checks core c = CAN_E_UNINIT if not core.initialised ∷ CAN_E_PARAM_CONTROLLER if not (in_use core c) ∷ []

-- it changes and writes nothing
unfoldable pub next_to_send : ℕ → Core → List ℕ → ℕ → (ℕ → ℕ) → Outcome Core
next_to_send gate core ram c rank =
    judged (gate then first_reason (next_to_send_checks core c))
    (rejected no_report no_answer core ram)
    (accepted (sends_next (next_object core c rank)) core ram [])
