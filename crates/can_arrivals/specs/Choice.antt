-- The choice of an arrival's object.
use Rattle.std.specs.Prelude.{ℕ, ◌≡◌, Bool, true, false, ◌&&◌}
use Rattle.std.specs.Bool.{beq}
use Rattle.rules.specs.State.{State}
use Rattle.rules.specs.Calls.{best_object}
use Rattle.rules.specs.Can.{Frame, can_format}
use Rattle.rules.specs.Chip.{chip}
use Rattle.core_events.specs.Pick.{view_pick, better_pick}
use Rattle.can_arrivals.specs.declared.choice.Choice.{Choice}

-- one object against the best so far, among the empty ones and among the full ones
pub record Compared (h : ℕ) (fits full : Bool) (before after : Choice) : Type 0 where
  pub empty_is : after.empty ≡ better_pick h (fits && beq full false) 0 before.empty
  pub full_is : after.full ≡ better_pick h (fits && beq full true) 0 before.full

-- the rules' choice for a frame, among the empty objects and among the full ones
pub record Chosen (s : State can_format) (c : ℕ) (frame : Frame) (r : Choice) : Type 0 where
  pub empty_is : view_pick r.empty ≡ best_object chip can_format s c frame false
  pub full_is : view_pick r.full ≡ best_object chip can_format s c frame true
