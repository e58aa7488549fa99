-- A list of calls as it runs: a night of the demands.
use Rattle.std.specs.Prelude.{ℕ, Bool, List, [], ◌∷◌, eqb}
use Rattle.rules.specs.Limits.{Limits}
use Rattle.rules.specs.Format.{Format}
use Rattle.rules.specs.Reason.{E_OK}
use Rattle.rules.specs.State.{State}
use Rattle.rules.specs.Outcome.{Outcome}
use Rattle.history.specs.Call.{Call, performed}

-- a call and what it left
pub record Step (F : Format) : Type 0 where
  pub call : Call F
  pub outcome : Outcome (State F)

-- "Accepted means that the call's return code is 0"
abbrev pub is_accepted : {S : Type 0} → Outcome S → Bool
is_accepted o = eqb o.code E_OK

module _ (L : Limits) (F : Format) where
  abbrev pub step : Call F → State F → List ℕ → Step F
  step c s ram = record { call = c; outcome = performed L F c s ram }

  -- "each call handed the state and memory that the last one left"
  unfoldable pub trace : List (Call F) → State F → List ℕ → List (Step F)
  trace [] s ram = []
  trace (c ∷ cs) s ram = step c s ram ∷ trace cs (performed L F c s ram).state (performed L F c s ram).ram

-- the state and the memory that a list of calls leaves
pub record Left (F : Format) : Type 0 where
  pub state : State F
  pub ram : List ℕ

unfoldable pub left_by : (L : Limits) (F : Format) → List (Call F) → State F → List ℕ → Left F
left_by L F [] s ram = record { state = s; ram = ram }
left_by L F (c ∷ cs) s ram = left_by L F cs (performed L F c s ram).state (performed L F c s ram).ram
