-- The parts of the test of all settings.
use Rattle.std.specs.Prelude.{ℕ, Bool, ◌&&◌, List, length}
use Rattle.rules.specs.Repeat.{all_below}
use Rattle.rules.specs.Core.{Owner, owner_at}
use Rattle.rules.specs.Configuration.{settings_at, settings_place_valid, settings_agreed}
use Rattle.rules.specs.Can as can
use Rattle.rules.specs.Chip.{chip}
use Rattle.core_validity.specs.Tests.{all_from}
use Rattle.core_validity.specs.Pools.{pools_valid}

-- the settings of each object in use suit its kind
abbrev pub settings_suit : List Owner → List can.Settings → ℕ → Bool
settings_suit os ss count = all_below count (λ h. can.settings_valid (owner_at os h).receiving (settings_at can.can_format ss h))

-- the settings of each other place are at rest
abbrev pub settings_rest : List can.Settings → ℕ → Bool
settings_rest ss count = all_from (length ss) count (λ h. can.settings_unused (settings_at can.can_format ss h))

-- the settings of all places
abbrev pub settings_places_valid : ℕ → List Owner → List can.Settings → Bool
settings_places_valid count os ss = all_below chip.objects (settings_place_valid can.can_format count os ss)

-- the pools of so many objects: each is valid, and its members agree
abbrev pub pools_agreed : ℕ → List Owner → List can.Settings → Bool
pools_agreed count os ss = pools_valid chip.objects os count && settings_agreed can.can_format count os ss
