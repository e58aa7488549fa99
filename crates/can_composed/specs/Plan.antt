-- A list of calls, and what it leaves from before initialisation.
use Rattle.std.specs.Prelude.{ℕ, ◌<◌, ◌^◌, ◌≡◌, List, [], ◌∷◌}
use Rattle.rules.specs.State.{initial_state}
use Rattle.rules.specs.Mode.{STARTED}
use Rattle.rules.specs.Can.{Frame, can_format}
use Rattle.rules.specs.Chip.{chip}
use Rattle.history.specs.Call.{Call, Init, SetControllerMode, MainFunctionMode, Write}
use Rattle.history.specs.Trace.{left_by}
use Rattle.can_state.specs.View.{view}
use Rattle.can_state.specs.declared.state.State.{State}

-- Init, a request for STARTED, a mode poll, and a write
abbrev pub plan : List ℕ → List ℕ → ℕ → (handle : ℕ) → handle < 2 ^ 16 → Frame → List (Call can_format)
plan sheet bytes object handle fits frame =
    Init sheet bytes ∷ SetControllerMode sheet 0 STARTED ∷ MainFunctionMode sheet ∷ Write sheet object handle fits frame ∷ []

-- the calls leave this state and this memory
pub record Reaches (calls : List (Call can_format)) (ram : List ℕ) (state : State) (ram_after : List ℕ) : Type 0 where
  pub state_is : view state ≡ (left_by chip can_format calls (initial_state chip can_format) ram).state
  pub ram_is : ram_after ≡ (left_by chip can_format calls (initial_state chip can_format) ram).ram
