-- A state that is not valid stays as it is.
use mathlib.Core.Path.{sym, ◌∙◌}
use Rattle.rules.specs.Can.{can_format}
use Rattle.rules.specs.Chip.{chip}
use Rattle.history.proofs.Replay.{unsound_stays}
use Rattle.can_state.specs.View.{view}
use Rattle.can_replay.specs.Replayed.{events_in, call_at}
use Rattle.can_replay.proofs.replay.replay.Goals as goal

pub returns-else-valid : goal.returns-else-valid
returns-else-valid c =
    let a = c.args in
    unsound_stays chip can_format (view a.state) a.ram.now (sym c.valid.ensures ∙ c.if-valid.false) (call_at (events_in a.kinds.now a.places.now a.values.now a.handles.now a.starts.now a.ends.now a.«data».now)) _ a.sheet.now
