-- A state between two calls, and after one.
use Rattle.std.specs.Prelude.{ℕ, ◌≡◌, true, List}
use Rattle.rules.specs.State as rules
use Rattle.rules.specs.Can.{can_format}
use Rattle.rules.specs.Chip.{chip}
use Rattle.can_state.specs.declared.state.State.{State}
use Rattle.can_state.specs.View.{view}
use Rattle.history.specs.Replay.{Whole, whole}

-- a valid state
abbrev pub Stands : State → Type 0
Stands s = rules.valid chip can_format (view s) ≡ true

-- a call was made: state, memory and sheet are what it leaves, and the state is valid again
pub record Stepped (w : Whole can_format) (s : State) (ram sheet : List ℕ) : Type 0 where
  pub left_is : whole (view s) ram sheet ≡ w
  pub stands : Stands s
