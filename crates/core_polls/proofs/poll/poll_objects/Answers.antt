-- The gate decides; there is room for what is told, since no more mailboxes are busy than objects are in use.
use mathlib.Core.Path.{◌≡◌, refl}
use mathlib.Core.Bool.{false}
use native.Mathlib.Omega.{arith}
use lib.Dec.{eqb}
use Rattle.rules.specs.Core.{mailbox_at}
use Rattle.laws.proofs.Bounds.{mailbox_busy, count_limit}
use Rattle.core_answers.specs.Answer.{verdict_reason}
use Rattle.core_answers.proofs.Laws.{reason_named}
use Rattle.core_polls.proofs.Polled.{objects_passed, polled_refused}
use Rattle.core_polls.proofs.poll.poll_objects.Goals as goal

pub visit_all-told-requires : goal.visit_all-told-requires
visit_all-told-requires g c =
    let a = c.args in
    let passed : verdict_reason a.gate ≡ 0 = rw c.in-Ok.is in
    let most = count_limit (g.K.CorePlaces.core a.core.now).object_count (λ h. mailbox_busy (mailbox_at (g.K.CorePlaces.core a.core.now).mailboxes h)) in
    let room = c.requires.room passed in
    record {
      count_in_bounds = omega (arith, c.object_count-count.ensures, room.objects_fit);
      lent = rw c.object_count-count.ensures room.lent;
      sheet_room = rw c.object_count-count.ensures (omega (arith, most, room.sheet_fits));
    }

pub returns-in-Ok-clause-done : goal.returns-in-Ok-clause-done
returns-in-Ok-clause-done g c =
    let a = c.args in
    let passed : verdict_reason a.gate ≡ 0 = rw c.in-Ok.is in
    objects_passed (verdict_reason a.gate) (g.K.CorePlaces.core a.core.now) a.ram.now _ passed c.visit_all-told.ensures.rest (rw c.object_count-count.ensures at c.visit_all-told.ensures.swept)

pub returns-in-Err-clause-done : goal.returns-in-Err-clause-done
returns-in-Err-clause-done g c =
    let a = c.args in
    let refused : eqb (verdict_reason a.gate) 0 ≡ false = rw c.in-Err.is (reason_named c.in-Err.field-0) in
    polled_refused (verdict_reason a.gate) (g.K.CorePlaces.core a.core.now) a.ram.now _ _ refused refl
