-- What an arrival rests on: the object chosen is in use.
use Prim.Native.Nat.{ℕ, ◌<◌}
use mathlib.Core.Path.{◌≡◌}
use mathlib.Core.Bool.{Bool}
use mathlib.Core.Option.{some}
use Rattle.rules.specs.State.{State}
use Rattle.rules.specs.Events as events
use Rattle.rules.specs.Calls.{best_object}
use Rattle.rules.specs.Can.{Frame, can_format}
use Rattle.rules.specs.Chip.{chip}
use Rattle.laws.proofs.Choice.{choice_tells}

pub chosen_in_use : (s : State can_format) (c : ℕ) (f : Frame) (full : Bool) (h : ℕ) → best_object chip can_format s c f full ≡ some h → h < s.core.object_count
unfolding events.best_object
chosen_in_use s c f full h e = (choice_tells _ _ s.core.object_count (some h) e).below
