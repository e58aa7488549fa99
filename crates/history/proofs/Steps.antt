-- A state stays valid through any call.
use Prim.Native.Nat.{ℕ}
use mathlib.Core.Path.{◌≡◌}
use mathlib.Core.Bool.{true}
use mathlib.Core.List.{List}
use lib.ListN.{length}
use Rattle.rules.specs.Limits.{Limits}
use Rattle.rules.specs.Format.{Format, Lawful}
use Rattle.rules.specs.State.{State, valid}
use Rattle.history.specs.Call.{Call, Init, DeInit, SetControllerMode, AskController, Write, MainFunctionWrite, MainFunctionRead, MainFunctionMode, MainFunctionBusOff, TxComplete, BusOffDetected, ErrorsCounted, FrameArrived, performed}
use Rattle.laws.proofs.StaysValid as stays

pub performed_valid : (L : Limits) (F : Format) → Lawful L F → (call : Call F) (s : State F) (ram : List ℕ) → valid L F s ≡ true → valid L F (performed L F call s ram).state ≡ true
unfolding performed
performed_valid L F lawful (Init sheet bytes) s ram v = stays.init_stays_valid L F s (length sheet) ram v bytes
performed_valid L F lawful (DeInit sheet) s ram v = stays.deinit_stays_valid L F s (length sheet) ram v lawful
performed_valid L F lawful (SetControllerMode sheet c asked) s ram v = stays.set_controller_mode_stays_valid L F s (length sheet) ram v c asked
performed_valid L F lawful (AskController q sheet c) s ram v = stays.ask_controller_stays_valid L F s (length sheet) ram v q c
performed_valid L F lawful (Write sheet h handle fits frame) s ram v = stays.write_stays_valid L F s (length sheet) ram v h handle frame
performed_valid L F lawful (MainFunctionWrite sheet) s ram v = stays.main_function_write_stays_valid L F s (length sheet) ram v
performed_valid L F lawful (MainFunctionRead sheet) s ram v = stays.main_function_read_stays_valid L F s (length sheet) ram v
performed_valid L F lawful (MainFunctionMode sheet) s ram v = stays.main_function_mode_stays_valid L F s (length sheet) ram v
performed_valid L F lawful (MainFunctionBusOff sheet) s ram v = stays.main_function_bus_off_stays_valid L F s (length sheet) ram v
performed_valid L F lawful (TxComplete h) s ram v = stays.tx_complete_stays_valid L F s 0 ram v h
performed_valid L F lawful (BusOffDetected c) s ram v = stays.bus_off_detected_stays_valid L F s 0 ram v c
performed_valid L F lawful (ErrorsCounted sheet c tx rx) s ram v = stays.errors_counted_stays_valid L F s (length sheet) ram v c tx rx
performed_valid L F lawful (FrameArrived sheet c frame) s ram v = stays.frame_arrived_stays_valid L F s (length sheet) ram v c frame
