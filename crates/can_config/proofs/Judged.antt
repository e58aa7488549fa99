-- What Init judges of a record that was read is what it judges of the record's bytes.
use Prim.Native.Nat.{ℕ}
use mathlib.Core.Path.{◌≡◌}
use mathlib.Core.List.{List}
use Rattle.core_places.specs.View.{view_owner}
use Rattle.can_state.specs.View.{view_settings}
use Rattle.can_config.specs.declared.record.Record.{Record}
use Rattle.can_config.specs.Reading.{object_valid, record_valid, Record_read}

pub valid_said : (controller_count : ℕ) {version h : ℕ} {bytes : List ℕ} {r : Record} → Record_read version h bytes r
    → object_valid controller_count r.kind (view_owner r.owner) (view_settings r.settings) ≡ record_valid version h controller_count bytes
valid_said controller_count read = λ i. object_valid controller_count (read.kind i) (read.owner i) (read.settings i)
