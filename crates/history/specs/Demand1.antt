-- Demand 1: "A refusal changes neither driver state nor mailbox memory, and writes on the notice sheet only the one error record that
-- 01 gives it, or nothing." And 01: "A sound state leads only to sound states."
use Rattle.std.specs.Prelude.{ℕ, ◌≡◌, true, false, cond, List, [], ◌∷◌, ltb}
use Rattle.std.proofs.Math.Option.{Option, none, some}
use Rattle.rules.specs.Limits.{Limits}
use Rattle.rules.specs.Format.{Format}
use Rattle.rules.specs.Notification.{Notification, development_error}
use Rattle.rules.specs.State.{State, valid}
use Rattle.rules.specs.Outcome.{Outcome}
use Rattle.rules.specs.Services.{INIT, DEINIT, SET_CONTROLLER_MODE, WRITE, question_service}
use Rattle.history.specs.Call.{Call, Init, DeInit, SetControllerMode, AskController, Write, MainFunctionWrite, MainFunctionRead, MainFunctionMode, MainFunctionBusOff, TxComplete, BusOffDetected, ErrorsCounted, FrameArrived, performed}
use Rattle.history.specs.Trace.{is_accepted}

-- "a service writes one record of kind 5, an event none", "Reasons from 32 up write nothing."
abbrev pub error_record : Option ℕ → ℕ → List Notification
error_record none reason = []
error_record (some service) reason = cond (ltb reason 32) (development_error service reason ∷ []) []

module _ (F : Format) where
  -- the number of a service; polls and events have none
  abbrev pub service_number : Call F → Option ℕ
  service_number (Init sheet bytes) = some INIT
  service_number (DeInit sheet) = some DEINIT
  service_number (SetControllerMode sheet c asked) = some SET_CONTROLLER_MODE
  service_number (AskController q sheet c) = some (question_service q)
  service_number (Write sheet h handle fits frame) = some WRITE
  service_number (MainFunctionWrite sheet) = none
  service_number (MainFunctionRead sheet) = none
  service_number (MainFunctionMode sheet) = none
  service_number (MainFunctionBusOff sheet) = none
  service_number (TxComplete h) = none
  service_number (BusOffDetected c) = none
  service_number (ErrorsCounted sheet c tx rx) = none
  service_number (FrameArrived sheet c frame) = none

  -- what a refused call leaves of this state and this memory
  pub record Refused (call : Call F) (s : State F) (ram : List ℕ) (o : Outcome (State F)) : Type 0 where
    pub state_kept : o.state ≡ s
    pub ram_kept : o.ram ≡ ram
    pub error_told : o.notifications ≡ error_record (service_number call) o.reason

module _ (L : Limits) (F : Format) where
  -- every call that does not return 0, from any state and with any memory
  abbrev pub RefusalRule : Type 0
  RefusalRule = (call : Call F) (s : State F) (ram : List ℕ) → is_accepted (performed L F call s ram) ≡ false → Refused F call s ram (performed L F call s ram)

  -- every call from a sound state, with any memory
  abbrev pub ValidRule : Type 0
  ValidRule = (call : Call F) (s : State F) (ram : List ℕ) → valid L F s ≡ true → valid L F (performed L F call s ram).state ≡ true
