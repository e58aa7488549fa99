-- What a call did, read off the call, its return code and its answer. Accounts, reference modes and the poll rule go by this alone, so
-- that a call's place in them is one line here.
use Rattle.std.specs.Prelude.{ℕ, Bool, true, false, cond, List, ltb}
use Rattle.rules.specs.Format.{Format}
use Rattle.rules.specs.State.{State}
use Rattle.rules.specs.Outcome.{Outcome, Question, Answer, no_answer, told, taken_by, stored_in, unwanted, lost, sends_next}
use Rattle.history.specs.Call.{Call, Init, DeInit, SetControllerMode, AskController, Write, MainFunctionWrite, MainFunctionRead, MainFunctionMode, MainFunctionBusOff, TxComplete, BusOffDetected, ErrorsCounted, FrameArrived}
use Rattle.history.specs.Trace.{Step, is_accepted}

-- Init with these bytes; DeInit
pub data Configuring : Type 0 where
  configured : List ℕ → Configuring
  unconfigured : Configuring

-- a write with this handle and this frame; a sent event
pub data AtObject (F : Format) : Type 0 where
  written : ℕ → F.Frame → AtObject F
  completed : AtObject F

-- a request for this mode; a question; a bus-off event; an event that sets the error counts, transmit and receive
pub data AtController : Type 0 where
  mode_asked : ℕ → AtController
  question_asked : Question → AtController
  bus_off : AtController
  counted : ℕ → ℕ → AtController

-- what sets the off-bus mark: "Bus-off event: the mark is set."; 02, Q-5: the count event where "the transmit count is above 255"
abbrev pub sets_mark : AtController → Bool
sets_mark bus_off = true
sets_mark (counted tx rx) = ltb 255 tx
sets_mark (mode_asked m) = false
sets_mark (question_asked q) = false

-- a write poll, a mode poll, a bus-off poll
pub data Poll : Type 0 where
  of_writes of_modes of_buses_off : Poll

-- Accepted calls have an effect. A read poll and an arrival have none on accounts and modes, and a refused call has none at all.
pub data Effect (F : Format) : Type 0 where
  nothing : Effect F
  configuring : Configuring → Effect F
  -- the object
  at_object : ℕ → AtObject F → Effect F
  -- the controller
  at_controller : ℕ → AtController → Effect F
  polling : Poll → Effect F

module _ (F : Format) where
  -- 02, Q-2: "a write belongs to the member that it answers"
  abbrev pub written_to : Answer → AtObject F → Effect F
  written_to (taken_by h) x = at_object h x
  written_to no_answer x = nothing
  written_to (told q n) x = nothing
  written_to (stored_in h) x = nothing
  written_to unwanted x = nothing
  written_to lost x = nothing
  written_to (sends_next o) x = nothing

  abbrev pub accepted_effect : Call F → Answer → Effect F
  accepted_effect (Init sheet bytes) _ = configuring (configured bytes)
  accepted_effect (DeInit sheet) _ = configuring unconfigured
  accepted_effect (SetControllerMode sheet c asked) _ = at_controller c (mode_asked asked)
  accepted_effect (AskController q sheet c) _ = at_controller c (question_asked q)
  accepted_effect (Write sheet h handle fits frame) a = written_to a (written handle frame)
  accepted_effect (MainFunctionWrite sheet) _ = polling of_writes
  accepted_effect (MainFunctionRead sheet) _ = nothing
  accepted_effect (MainFunctionMode sheet) _ = polling of_modes
  accepted_effect (MainFunctionBusOff sheet) _ = polling of_buses_off
  accepted_effect (TxComplete h) _ = at_object h completed
  accepted_effect (BusOffDetected c) _ = at_controller c bus_off
  accepted_effect (ErrorsCounted sheet c tx rx) _ = at_controller c (counted tx rx)
  accepted_effect (FrameArrived sheet c frame) _ = nothing

  -- "Accepted means that the call's return code is 0"
  abbrev pub effect : Call F → Outcome (State F) → Effect F
  effect call o = cond (is_accepted o) (accepted_effect call o.answer) nothing

  abbrev pub effect_of : Step F → Effect F
  effect_of x = effect x.call x.outcome
