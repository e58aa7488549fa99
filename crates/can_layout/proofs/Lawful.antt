-- Classic and FD frames are a lawful format of this chip: a frame that passes its checks fills its object, and its handle is read back.
use Prim.Native.Nat.{ℕ, ◌≤◌}
use mathlib.Core.Path.{◌≡◌, refl}
use mathlib.Core.Bool.{Bool, true, false, cond, not, ◌&&◌}
use native.Mathlib.Omega.{arith}
use borrow.Author.Tests.{eqb-true, leb-true, not-false}
use lib.Dec.{leb, eqb}
use lib.ListN.{length}
use Rattle.rules.specs.Format.{Lawful}
use Rattle.rules.specs.Reason.{first_reason}
use Rattle.rules.specs.Can.{Frame, Settings, longest_classic, longest_fd, length_fits, is_wire_length, write_checks, arrival_checks, is_fd, wire_length, can_format}
use Rattle.rules.specs.Chip.{chip}
use Rattle.laws.proofs.Tests.{left}
use Rattle.laws.proofs.Reasons.{head_passed, tail_passed}
use Rattle.can_layout.proofs.ObjectBytes.{object_fills, handle_back}

-- a length that passes the test of its format is at most the longest
pub short_enough : (fd t : Bool) (n : ℕ) → cond fd (leb n longest_fd && t) (leb n longest_classic) ≡ true → n ≤ longest_fd
short_enough true t n e = leb-true n longest_fd (left (leb n longest_fd) t e)
short_enough false t n e = omega (arith, leb-true n longest_classic e)

pub written_short : (s : Settings) (f : Frame) → first_reason (write_checks s f) ≡ 0 → length f.sdu ≤ longest_fd
written_short s f h =
    let n = length f.sdu in
    short_enough (is_fd f.identifier) (not (eqb s.payload longest_classic)) n
    (not-false (length_fits s.payload f.identifier n) (head_passed _ _ refl h))

arrived_short : (f : Frame) → first_reason (arrival_checks f) ≡ 0 → length f.sdu ≤ longest_fd
arrived_short f h =
    let n = length f.sdu in
    short_enough (is_fd f.identifier) (eqb (wire_length n) n) n
    (not-false (is_wire_length f.identifier n) (head_passed _ _ refl (tail_passed _ _ refl h)))

pub can_lawful : Lawful chip can_format
can_lawful =
    record {
      unused = refl;
      written_fills = λ s handle f h. object_fills s handle f (written_short s f h);
      arrived_fills = λ s f h. object_fills s 0 f (arrived_short f h);
      handle_kept = handle_back;
      carried_alike = λ s t f alike passed. rw (eqb-true s.payload t.payload (left (eqb s.payload t.payload) (eqb s.padding t.padding) alike)) passed;
    }
