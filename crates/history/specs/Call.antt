-- The calls of a list. 01, "The words of demand 3": "Its list may hold each service .., each poll and each bench event".
use Rattle.std.specs.Prelude.{ℕ, ◌<◌, ◌^◌, List, length}
use Rattle.rules.specs.Limits.{Limits}
use Rattle.rules.specs.Format.{Format}
use Rattle.rules.specs.State.{State}
use Rattle.rules.specs.Outcome.{Outcome, Question}
use Rattle.rules.specs.Calls as calls

-- "Each call brings its own inputs and, where it takes one, its own sheet, of any length and content". The sheet comes first.
pub data Call (F : Format) : Type 0 where
  -- configuration bytes
  Init : List ℕ → List ℕ → Call F
  DeInit : List ℕ → Call F
  -- controller, mode asked for
  SetControllerMode : List ℕ → ℕ → ℕ → Call F
  -- GetControllerMode and 02's three questions, Q-5: what is asked, controller
  AskController : Question → List ℕ → ℕ → Call F
  -- object, handle of 16 bits, frame
  Write : List ℕ → ℕ → (handle : ℕ) → handle < 2 ^ 16 → F.Frame → Call F
  MainFunctionWrite : List ℕ → Call F
  MainFunctionRead : List ℕ → Call F
  MainFunctionMode : List ℕ → Call F
  MainFunctionBusOff : List ℕ → Call F
  -- object
  TxComplete : ℕ → Call F
  -- controller
  BusOffDetected : ℕ → Call F
  -- 02, Q-5: controller, transmit count, receive count
  ErrorsCounted : List ℕ → ℕ → ℕ → ℕ → Call F
  -- controller, frame
  FrameArrived : List ℕ → ℕ → F.Frame → Call F

module _ (L : Limits) (F : Format) where
  -- what the call leaves of this state and this memory
  unfoldable pub performed : Call F → State F → List ℕ → Outcome (State F)
  performed (Init sheet bytes) s ram = calls.init L F s (length sheet) ram bytes
  performed (DeInit sheet) s ram = calls.deinit L F s (length sheet) ram
  performed (SetControllerMode sheet c asked) s ram = calls.set_controller_mode L F s (length sheet) ram c asked
  performed (AskController q sheet c) s ram = calls.ask_controller L F q s (length sheet) ram c
  performed (Write sheet h handle fits frame) s ram = calls.write L F s (length sheet) ram h handle frame
  performed (MainFunctionWrite sheet) s ram = calls.main_function_write L F s (length sheet) ram
  performed (MainFunctionRead sheet) s ram = calls.main_function_read L F s (length sheet) ram
  performed (MainFunctionMode sheet) s ram = calls.main_function_mode L F s (length sheet) ram
  performed (MainFunctionBusOff sheet) s ram = calls.main_function_bus_off L F s (length sheet) ram
  performed (TxComplete h) s ram = calls.tx_complete L F s ram h
  performed (BusOffDetected c) s ram = calls.bus_off_detected L F s ram c
  performed (ErrorsCounted sheet c tx rx) s ram = calls.errors_counted L F s (length sheet) ram c tx rx
  performed (FrameArrived sheet c frame) s ram = calls.frame_arrived L F s (length sheet) ram c frame
