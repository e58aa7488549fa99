-- The code's list of events, as the contracts see it.
use Rattle.can_replay.specs.declared.events.Events as declared
use Rattle.can_replay.specs.Replayed.{Events, events_in}

abbrev pub view_events : declared.Events → Events
view_events e = events_in e.kinds.now e.places.now e.values.now e.handles.now e.starts.now e.ends.now e.bytes.now
