-- One event, and the call that it stands for.
use Rattle.std.specs.Prelude.{ℕ, ◌%◌, ◌^◌, List, [], ◌∷◌, get_or}
use Rattle.std.proofs.Common.{arith}
use Rattle.rules.specs.Can.{Frame, can_format}
use Rattle.rules.specs.Outcome.{of_mode, of_error_state, of_rx_errors, of_tx_errors}
use Rattle.history.specs.Call.{Call, Init, DeInit, SetControllerMode, AskController, Write, MainFunctionWrite, MainFunctionRead, MainFunctionMode, MainFunctionBusOff, TxComplete, BusOffDetected, ErrorsCounted, FrameArrived}

-- One event: its kind; its object or controller; its identifier, the mode asked for or a transmit count; its handle or a receive count; its
-- bytes. The sheet is the one that the call is handed.
module _ (sheet : List ℕ) (place value handle : ℕ) (bytes : List ℕ) where
  abbrev pub frame : Frame
  frame = record { identifier = value; sdu = bytes }

  -- a handle has 16 bits
  abbrev pub write_call : Call can_format
  write_call = Write sheet place (handle % 2 ^ 16) (omega arith) frame

  abbrev pub arrival : Call can_format
  arrival = FrameArrived sheet place frame

  -- the kinds from 0 on
  abbrev pub kinds : List (Call can_format)
  kinds =
      Init sheet bytes
      ∷ DeInit sheet
      ∷ SetControllerMode sheet place value
      ∷ AskController of_mode sheet place
      ∷ write_call
      ∷ MainFunctionWrite sheet
      ∷ MainFunctionRead sheet
      ∷ MainFunctionMode sheet
      ∷ MainFunctionBusOff sheet
      ∷ TxComplete place
      ∷ BusOffDetected place
      ∷ arrival
      ∷ AskController of_error_state sheet place
      ∷ AskController of_rx_errors sheet place
      ∷ AskController of_tx_errors sheet place
      ∷ ErrorsCounted sheet place value handle
      ∷ []

  -- every other kind is an arrival
  abbrev pub call_of : ℕ → Call can_format
  call_of kind = get_or kinds kind arrival
