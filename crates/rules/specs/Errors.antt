-- What a controller remembers of errors on the bus. 02, Q-5, "Error counters and error states".
use Rattle.std.specs.Prelude.{ℕ, min, Bool, false, not, cond, ◌&&◌, ◌||◌, eqb, ltb, leb}

-- "Each controller keeps a transmit and a receive error count"; "A bus-off poll leaves a second mark"
pub record Errors : Type 0 where
  -- the "second mark"
  pub recovering : Bool
  pub tx_errors : ℕ
  pub rx_errors : ℕ

-- at rest, and "zero after Init"
abbrev pub no_errors : Errors
no_errors = record { recovering = false; tx_errors = 0; rx_errors = 0 }

abbrev pub errors_none : Errors → Bool
errors_none e = not e.recovering && eqb e.tx_errors 0 && eqb e.rx_errors 0

-- "given numbers up to 65,535"
abbrev pub ERROR_LIMIT : ℕ
ERROR_LIMIT = 65535

-- "By ISO 11898-1 a controller is error passive where either count is above 127"
abbrev pub PASSIVE_ABOVE : ℕ
PASSIVE_ABOVE = 127

-- ".. and bus-off where the transmit count is above 255"
abbrev pub BUS_OFF_ABOVE : ℕ
BUS_OFF_ABOVE = 255

abbrev pub within_limit : ℕ → ℕ → Bool
within_limit tx rx = leb tx ERROR_LIMIT && leb rx ERROR_LIMIT

abbrev pub either_passive : ℕ → ℕ → Bool
either_passive tx rx = ltb PASSIVE_ABOVE tx || ltb PASSIVE_ABOVE rx

abbrev pub above_bus_off : ℕ → Bool
above_bus_off tx = ltb BUS_OFF_ABOVE tx

-- "capped at 255", "each at most 255"
abbrev pub capped : ℕ → ℕ
capped n = min n 255

-- the error states: "0 active, 1 passive, 2 bus-off"
abbrev pub ERRORSTATE_ACTIVE : ℕ
ERRORSTATE_ACTIVE = 0

abbrev pub ERRORSTATE_PASSIVE : ℕ
ERRORSTATE_PASSIVE = 1

abbrev pub ERRORSTATE_BUSOFF : ℕ
ERRORSTATE_BUSOFF = 2

-- by the two counts, and whether the controller is off the bus by one of its two marks
abbrev pub error_state_of : Bool → ℕ → ℕ → ℕ
error_state_of off tx rx = cond (off || above_bus_off tx) ERRORSTATE_BUSOFF (cond (either_passive tx rx) ERRORSTATE_PASSIVE ERRORSTATE_ACTIVE)
