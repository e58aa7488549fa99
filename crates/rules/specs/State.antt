-- The driver state: its core, and what is configured of each object's frames. 01, "What the bench is made of"; valid is 01's sound.
use Rattle.std.specs.Prelude.{Bool, ◌&&◌, List, length, replicate, eqb}
use Rattle.rules.specs.Limits.{Limits}
use Rattle.rules.specs.Format.{Format}
use Rattle.rules.specs.Core.{Core, core_valid, initial_core}
use Rattle.rules.specs.Configuration.{all_settings_valid}

pub record State (F : Format) : Type 0 where
  pub core : Core
  -- a place for each object
  pub settings : List F.Settings

-- the state with this core: no call but Init and DeInit changes the settings
abbrev pub with_core : {F : Format} → State F → Core → State F
with_core s core = record { core = core; settings = s.settings }

module _ (L : Limits) (F : Format) where
  -- "A state is sound exactly if .." its core is, and so are the settings of every place
  unfoldable pub valid : State F → Bool
  valid s =
      core_valid L s.core && eqb (length s.settings) L.objects && all_settings_valid L F s.core.object_count s.core.owners s.settings

  -- the state before initialisation, from which the lists of demand 3 begin
  abbrev pub initial_state : State F
  initial_state = record { core = initial_core L; settings = replicate L.objects F.unused_settings }
