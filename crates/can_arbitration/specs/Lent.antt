-- Who sends next: the room that the call needs once its gate lets it pass.
use Rattle.std.specs.Prelude.{ℕ, ◌≤◌, ◌≡◌, List, length}
use Rattle.rules.specs.Limits.{ram_size}
use Rattle.rules.specs.Chip.{chip}

-- the chip has a place for each object in use, and the memory is whole
pub record NextRoom (object_count : ℕ) (ram : List ℕ) : Type 0 where
  pub objects_fit : object_count ≤ chip.objects
  pub ram_whole : length ram ≡ ram_size chip
