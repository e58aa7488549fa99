-- An object laid down in lent memory, whole or not at all. 01: "the 72 bytes are laid down whole".
use Rattle.std.specs.Prelude.{ℕ, ◌+◌, ◌≡◌, Bool, cond, ◌&&◌, List, length, leb}
use Rattle.rules.specs.Limits.{object_start}
use Rattle.rules.specs.Bytes.{splice}
use Rattle.rules.specs.Can.{Frame, Settings, longest_fd, object_bytes}
use Rattle.rules.specs.Chip.{chip}

-- an object's settings show in its bytes by the padding value alone
abbrev pub padded_with : ℕ → Settings
padded_with padding = record { payload = 0; padding = padding; code = 0; mask = 0 }

-- memory of so many bytes holds the whole object, and a frame holds so many bytes of data
abbrev pub has_room : ℕ → ℕ → ℕ → Bool
has_room object ram n = leb (object_start chip object + chip.object_size) ram && leb n longest_fd

-- what laying an object down answers, and the whole memory afterwards
pub record LaidDown (object padding handle : ℕ) (frame : Frame) (before after : List ℕ) (answer : Bool) : Type 0 where
  pub answered : answer ≡ has_room object (length before) (length frame.sdu)
  pub written : after ≡ cond (has_room object (length before) (length frame.sdu)) (splice (object_start chip object) (object_bytes (padded_with padding) handle frame) before) before
