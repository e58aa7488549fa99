-- The checks of Init on the state and on the configuration. The list is the rules' own, once the bytes are read, and the contract of the
-- service says so.
use Rattle.std.specs.Prelude.{Bool, not, List, [], ◌∷◌}
use Rattle.rules.specs.Reason.{Check, ◌if◌, CAN_E_TRANSITION, CAN_E_INIT_FAILED}

-- "Init: 6 if initialised, 9 if the configuration is bad."
abbrev pub init_checks : Bool → Bool → List Check
init_checks initialised accepted = CAN_E_TRANSITION if initialised ∷ CAN_E_INIT_FAILED if not accepted ∷ []
