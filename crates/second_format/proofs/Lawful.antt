-- Ranged frames are a lawful format of their chip: a frame that passes its checks fills its object, and its handle is read back.
use Prim.Native.Nat.{ℕ, ◌≤◌, ◌<◌, ◌^◌}
use mathlib.Core.Path.{◌≡◌, refl}
use native.Mathlib.Omega.{arith}
use borrow.Author.Tests.{leb-true, eqb-true}
use lib.Dec.{leb}
use lib.ListN.{length, length-append, length-replicate}
use Rattle.rules.specs.Bytes.{big_endian, number}
use Rattle.rules.specs.Head.{handle_in}
use Rattle.rules.specs.Format.{Lawful}
use Rattle.rules.specs.Reason.{first_reason, reasons_named}
use Rattle.second_format.specs.Ranged.{Frame, Settings, longest_data, length_fits, write_checks, arrival_checks, object_bytes, ranged_format, small_chip}
use Rattle.laws.proofs.Tests.{left, not_false}
use Rattle.laws.proofs.Reasons.{check_passed}

written_short : (s : Settings) (f : Frame) → first_reason (write_checks s f) ≡ 0 → length f.sdu ≤ longest_data
unfolding reasons_named
written_short s f h =
    let n = length f.sdu in
    leb-true n longest_data (left (leb n longest_data) (leb n s.longest) (not_false (length_fits s n) (check_passed 0 (write_checks s f) refl h)))

arrived_short : (f : Frame) → first_reason (arrival_checks f) ≡ 0 → length f.sdu ≤ longest_data
unfolding reasons_named
arrived_short f h =
    let n = length f.sdu in leb-true n longest_data (not_false (leb n longest_data) (check_passed 1 (arrival_checks f) refl h))

object_fills : (s : Settings) (handle : ℕ) (f : Frame) → length f.sdu ≤ longest_data → length (object_bytes s handle f) ≡ small_chip.object_size
unfolding object_bytes big_endian
object_fills s handle f h = simp (length-append, length-replicate) (omega arith)

handle_back : (s : Settings) (handle : ℕ) (f : Frame) → handle < 2 ^ 16 → handle_in (object_bytes s handle f) ≡ handle
unfolding object_bytes big_endian number
handle_back s handle f h = omega arith

pub ranged_lawful : Lawful small_chip ranged_format
ranged_lawful =
    record {
      unused = refl;
      written_fills = λ s handle f h. object_fills s handle f (written_short s f h);
      arrived_fills = λ s f h. object_fills s 0 f (arrived_short f h);
      handle_kept = handle_back;
      carried_alike = λ s t f alike passed. rw (eqb-true s.longest t.longest alike) passed;
    }
