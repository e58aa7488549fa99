-- What a call leaves behind, and how its reasons decide. 01, "Reasons for a no".
use Rattle.std.specs.Prelude.{ℕ, not, cond, List, [], ◌∷◌, length, eqb, ltb}
use Rattle.std.proofs.Math.Option.{Option}
use Rattle.rules.specs.Limits.{Limits, ram_size, sheet_size}
use Rattle.rules.specs.Format.{Format}
use Rattle.rules.specs.Notification.{Notification, development_error}
use Rattle.rules.specs.Reason.{Check, ◌if◌, E_OK, first_reason, return_code, is_development_error, INVALID_STATE, SHEET_TOO_SHORT, WRONG_RAM_SIZE}
use Rattle.rules.specs.Core.{Core}
use Rattle.rules.specs.State.{State, with_core, valid}

-- what can be asked of a controller: GetControllerMode's mode, and 02's, Q-5, "the state .. and the receive and transmit counts"
pub data Question : Type 0 where
  of_mode of_error_state of_rx_errors of_tx_errors : Question

-- what a call answers beside its return code and reason
pub data Answer : Type 0 where
  no_answer : Answer
  -- the answer to a question of a controller
  told : Question → ℕ → Answer
  -- the object that took a write
  taken_by : ℕ → Answer
  -- the three ends of an arrival: "stored, with the object's number; unwanted, where no object fits; or lost, where all that fit are full"
  stored_in : ℕ → Answer
  unwanted : Answer
  lost : Answer
  -- the object that sends next on a controller, or none
  sends_next : Option ℕ → Answer

-- S is the state, or the core of it
pub record Outcome (S : Type 0) : Type 0 where
  pub code : ℕ
  pub reason : ℕ
  pub answer : Answer
  pub state : S
  pub ram : List ℕ
  pub notifications : List Notification

-- "a service writes one record of kind 5, an event none"; reasons from 32 up write nothing
abbrev pub service_report : ℕ → ℕ → List Notification
service_report service r = cond (is_development_error r) (development_error service r ∷ []) []

abbrev pub no_report : ℕ → List Notification
no_report r = []

module _ {S : Type 0} where
  -- "State and memory stay as they were."
  abbrev pub rejected : (ℕ → List Notification) → Answer → S → List ℕ → ℕ → Outcome S
  rejected report answer s ram r =
      record { code = return_code r; reason = r; answer = answer; state = s; ram = ram; notifications = report r }

  -- a call that is accepted leaves this
  abbrev pub accepted : Answer → S → List ℕ → List Notification → Outcome S
  accepted answer s ram notes = record { code = E_OK; reason = 0; answer = answer; state = s; ram = ram; notifications = notes }

  -- the reason decides: 0 accepts
  unfoldable pub judged : ℕ → (ℕ → Outcome S) → Outcome S → Outcome S
  judged r refuse accept = cond (eqb r 0) accept (refuse r)

-- a call that looks at no frame: what it leaves of the core, with the settings as they were
abbrev pub lifted : {F : Format} → State F → Outcome Core → Outcome (State F)
lifted s o =
    record { code = o.code; reason = o.reason; answer = o.answer; state = with_core s o.state; ram = o.ram; notifications = o.notifications }

-- "41, 32, 33 (where sheet or memory is taken), then ..": the reason that a call's gate finds, 0 where it lets the call pass
module _ (L : Limits) (F : Format) where
  abbrev pub state_check : State F → Check
  state_check s = INVALID_STATE if not (valid L F s)

  -- the number is the sheet's length in words
  abbrev pub sheet_check : ℕ → Check
  sheet_check sheet = SHEET_TOO_SHORT if ltb sheet (sheet_size L)

  abbrev pub ram_check : List ℕ → Check
  ram_check ram = WRONG_RAM_SIZE if not (eqb (length ram) (ram_size L))

  -- of a call that takes neither sheet nor memory; the sheet only; both; the memory only
  unfoldable pub state_gate : State F → ℕ
  state_gate s = first_reason (state_check s ∷ [])

  unfoldable pub sheet_gate : State F → ℕ → ℕ
  sheet_gate s sheet = first_reason (state_check s ∷ sheet_check sheet ∷ [])

  unfoldable pub full_gate : State F → ℕ → List ℕ → ℕ
  full_gate s sheet ram = first_reason (state_check s ∷ sheet_check sheet ∷ ram_check ram ∷ [])

  unfoldable pub ram_gate : State F → List ℕ → ℕ
  ram_gate s ram = first_reason (state_check s ∷ ram_check ram ∷ [])
