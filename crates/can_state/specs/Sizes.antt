-- How many places a state has. The code has no other states.
use Rattle.std.specs.Prelude.{◌≡◌, length}
use Rattle.rules.specs.Chip.{chip}
use Rattle.core_places.specs.View.{view_core}
use Rattle.core_places.specs.Sized as core
use Rattle.can_state.specs.declared.state.State.{State}

pub record Sized (s : State) : Type 0 where
  pub core_is : core.Sized chip.controllers chip.objects (view_core s.core)
  pub settings_are : length s.settings ≡ chip.objects
