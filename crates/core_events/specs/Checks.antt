-- The checks of the events on what they read of the core, one place at a time. Each list is the rules' own, once the places are read, and
-- the contract of each event says so.
use Rattle.std.specs.Prelude.{Bool, not, List, [], ◌∷◌}
use Rattle.rules.specs.Reason.{Check, ◌if◌, CAN_E_PARAM_HANDLE, CAN_E_PARAM_CONTROLLER, CAN_E_UNINIT, NOT_STARTED, BUS_OFF, NOTHING_TO_SEND}
use Rattle.rules.specs.Core.{Controller, Mailbox, is_started}
use Rattle.rules.specs.Events.{has_unsent}

-- "Sent: 5, 2, 38, 37."
abbrev pub sent_checks : Bool → Bool → Mailbox → Controller → List Check
sent_checks initialised sending m k =
    CAN_E_UNINIT if not initialised
    ∷ CAN_E_PARAM_HANDLE if not sending
    ∷ NOTHING_TO_SEND if not (has_unsent m)
    ∷ BUS_OFF if k.bus_off
    ∷ []

-- "Bus-off: 5, 4, 35, 37.", with which Arrived begins too
abbrev pub on_bus_checks : Bool → Bool → Controller → List Check
on_bus_checks initialised in_use k =
    CAN_E_UNINIT if not initialised
    ∷ CAN_E_PARAM_CONTROLLER if not in_use
    ∷ NOT_STARTED if not (is_started k)
    ∷ BUS_OFF if k.bus_off
    ∷ []
