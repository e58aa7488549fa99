-- Arrived, wherever the places stand: the room that it needs once its gate lets it pass.
use Rattle.std.specs.Prelude.{ℕ, ◌≤◌, ◌≡◌, List, length}
use Rattle.rules.specs.Limits.{ram_size}
use Rattle.rules.specs.Chip.{chip}
use Rattle.core_layout.specs.Sheet.{words_each}

-- the chip has a place for each object in use, the memory is whole, and the sheet holds a notification
pub record ArrivalRoom (object_count : ℕ) (ram sheet : List ℕ) : Type 0 where
  pub objects_fit : object_count ≤ chip.objects
  pub ram_whole : length ram ≡ ram_size chip
  pub sheet_fits : words_each ≤ length sheet
