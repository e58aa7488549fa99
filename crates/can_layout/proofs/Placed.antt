-- What laying down an object leaves where there is room for it.
use Prim.Native.Nat.{ℕ, ◌+◌, ◌≤◌, ◌<◌}
use mathlib.Core.Path.{◌≡◌, ◌∙◌}
use mathlib.Core.Bool.{Bool, true}
use mathlib.Core.List.{List}
use lib.ListN.{length}
use borrow.Author.Tests.{le-leb}
use Rattle.rules.specs.Limits.{object_start, ram_size}
use Rattle.rules.specs.Bytes.{splice}
use Rattle.rules.specs.Can.{Frame, Settings, longest_fd, object_bytes}
use Rattle.rules.specs.Chip.{chip}
use Rattle.laws.proofs.Tests.{both}
use Rattle.laws.proofs.Objects.{object_end}
use Rattle.can_layout.specs.Object.{LaidDown, has_room, padded_with}
use Rattle.can_layout.proofs.ObjectBytes.{padding_only}

-- a whole memory has room for a frame in each object of the chip
pub object_room : (h n : ℕ) (ram : List ℕ) → h < chip.objects → length ram ≡ ram_size chip → n ≤ longest_fd → has_room h (length ram) n ≡ true
object_room h n ram inside whole fit =
    let end : object_start chip h + chip.object_size ≤ length ram = rw whole (object_end chip h chip.objects inside) in
    both (le-leb (object_start chip h + chip.object_size) (length ram) end) (le-leb n longest_fd fit)

-- where there is room the object is laid down, padded as its settings say
pub laid_whole : {h padding handle : ℕ} {frame : Frame} {before after : List ℕ} {answer : Bool} (s : Settings) → LaidDown h padding handle frame before after answer
    → has_room h (length before) (length frame.sdu) ≡ true → padding ≡ s.padding → after ≡ splice (object_start chip h) (object_bytes s handle frame) before
laid_whole {h} {padding} {handle} {frame} {before} s laid room e =
    laid.written ∙ rw (room, padding_only (padded_with padding) s handle frame e)
