-- Calls that are handed one sheet: it goes from call to call, as state and memory do.
use Rattle.std.specs.Prelude.{ℕ, ◌≡◌, List}
use Rattle.rules.specs.Repeat.{rising, list_below}
use Rattle.rules.specs.Limits.{Limits}
use Rattle.rules.specs.Format.{Format}
use Rattle.rules.specs.Notification.{sheet_after}
use Rattle.rules.specs.State.{State}
use Rattle.rules.specs.Outcome.{Outcome}
use Rattle.history.specs.Call.{Call, performed}
use Rattle.history.specs.Trace.{left_by}

-- what goes from call to call
pub record Whole (F : Format) : Type 0 where
  pub state : State F
  pub ram : List ℕ
  pub sheet : List ℕ

abbrev pub whole : {F : Format} → State F → List ℕ → List ℕ → Whole F
whole s ram sheet = record { state = s; ram = ram; sheet = sheet }

-- what a call leaves that was handed this sheet
abbrev pub whole_of : {F : Format} → Outcome (State F) → List ℕ → Whole F
whole_of o sheet = whole o.state o.ram (sheet_after o.notifications sheet)

-- the calls by their number, and by the sheet that each is handed
module _ (L : Limits) (F : Format) (call : ℕ → List ℕ → Call F) where
  abbrev pub made : ℕ → Whole F → Whole F
  made i w = whole_of (performed L F (call i w.sheet) w.state w.ram) w.sheet

  -- the first n, "each call handed the state and memory that the last one left", and the sheet too
  unfoldable pub replayed : ℕ → Whole F → Whole F
  replayed n w = rising n made w

  -- the same as a list of calls, each with the sheet that it was handed
  unfoldable pub replayed_calls : ℕ → Whole F → List (Call F)
  replayed_calls n w = list_below n (λ i. call i (rising i made w).sheet)

-- so what is left of state and memory is what that list leaves
abbrev pub ReplayRule : Limits → Format → Type 0
ReplayRule L F =
    (call : ℕ → List ℕ → Call F) (n : ℕ) (w : Whole F)
    → left_by L F (replayed_calls L F call n w) w.state w.ram ≡ record { state = (replayed L F call n w).state; ram = (replayed L F call n w).ram }
