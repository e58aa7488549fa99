-- The checks of the services on what they read of the core, one place at a time. Each list is the rules' own, once the places are read, and
-- the contract of each service says so.
use Rattle.std.specs.Prelude.{ℕ, Bool, not, ◌||◌, List, [], ◌∷◌}
use Rattle.rules.specs.Mode.{permitted}
use Rattle.rules.specs.Reason.{Check, ◌if◌, CAN_E_PARAM_HANDLE, CAN_E_PARAM_CONTROLLER, CAN_E_UNINIT, CAN_E_TRANSITION, NOT_STARTED, OBJECT_BUSY}
use Rattle.rules.specs.Core.{Controller, Mailbox, is_started}

-- "5, 4 (controller not below the configured count, here and everywhere)"
abbrev pub in_use_checks : Bool → Bool → List Check
in_use_checks initialised in_use = CAN_E_UNINIT if not initialised ∷ CAN_E_PARAM_CONTROLLER if not in_use ∷ []

-- "6 (unknown mode or forbidden move)"
abbrev pub move_checks : Controller → ℕ → List Check
move_checks k asked = CAN_E_TRANSITION if not (permitted k.mode asked) ∷ []

-- "DeInit: 6 if not initialised or a controller is STARTED."
abbrev pub deinit_checks : Bool → Bool → List Check
deinit_checks initialised started = CAN_E_TRANSITION if (not initialised || started) ∷ []

-- "Write: 5, 2 (not a configured sending object) ..", where the object names no pool
abbrev pub sending_checks : Bool → Bool → List Check
sending_checks initialised named = CAN_E_UNINIT if not initialised ∷ CAN_E_PARAM_HANDLE if not named ∷ []

-- ".. 35, 36."
abbrev pub free_checks : Controller → Mailbox → List Check
free_checks k m = NOT_STARTED if not (is_started k) ∷ OBJECT_BUSY if m.tx_pending ∷ []
