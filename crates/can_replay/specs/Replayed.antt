-- A list of events in lent arrays, one array for each field, and the calls that it stands for.
use Rattle.std.specs.Prelude.{ℕ, ◌-◌, min, cond, ◌&&◌, List, [], length, get_or, leb}
use Rattle.rules.specs.Bytes.{part}
use Rattle.rules.specs.Can.{can_format}
use Rattle.rules.specs.Chip.{chip}
use Rattle.history.specs.Call.{Call}
use Rattle.history.specs.Replay.{Whole, made, replayed}
use Rattle.can_step.specs.Called.{call_of}

-- the part of all bytes from start to end; none where they have no such part
abbrev pub bytes_between : ℕ → ℕ → List ℕ → List ℕ
bytes_between start end all = cond (leb start end && leb end (length all)) (part start (end - start) all) []

pub record Events : Type 0 where
  pub kinds : List ℕ
  pub places : List ℕ
  pub values : List ℕ
  pub handles : List ℕ
  pub starts : List ℕ
  pub ends : List ℕ
  -- of all events
  pub bytes : List ℕ

abbrev pub events_in : List ℕ → List ℕ → List ℕ → List ℕ → List ℕ → List ℕ → List ℕ → Events
events_in kinds places values handles starts ends bytes = record { kinds = kinds; places = places; values = values; handles = handles; starts = starts; ends = ends; bytes = bytes }

-- as many events as every array has
abbrev pub event_count : Events → ℕ
event_count e = min (length e.kinds) (min (length e.places) (min (length e.values) (min (length e.handles) (min (length e.starts) (length e.ends)))))

-- the call of event i, with the sheet that it is handed
abbrev pub call_at : Events → ℕ → List ℕ → Call can_format
call_at e i sheet =
    call_of sheet (get_or e.places i 0) (get_or e.values i 0) (get_or e.handles i 0) (bytes_between (get_or e.starts i 0) (get_or e.ends i 0) e.bytes) (get_or e.kinds i 0)

-- what one of them leaves, and what all of them leave in their order
abbrev pub made_at : Events → ℕ → Whole can_format → Whole can_format
made_at e i w = made chip can_format (call_at e) i w

abbrev pub all_replayed : Events → Whole can_format → Whole can_format
all_replayed e w = replayed chip can_format (call_at e) (event_count e) w
