-- The gate decides.
use mathlib.Core.Path.{◌≡◌, refl}
use mathlib.Core.Bool.{false}
use native.Mathlib.Omega.{arith}
use lib.Dec.{eqb}
use Rattle.core_answers.specs.Answer.{verdict_reason}
use Rattle.core_answers.proofs.Laws.{reason_named}
use Rattle.core_polls.specs.Turns.{turn_of}
use Rattle.core_polls.proofs.Polled.{controllers_passed, polled_refused}
use Rattle.core_polls.proofs.poll.poll_controllers.Goals as goal

pub errors_all-requires : goal.errors_all-requires
errors_all-requires g c =
    let passed : verdict_reason c.args.gate ≡ 0 = rw c.in-Ok.is in
    omega (arith, c.controller_count-count.ensures, c.requires.errors passed)

pub turn_all-told-requires : goal.turn_all-told-requires
turn_all-told-requires g c =
    let passed : verdict_reason c.args.gate ≡ 0 = rw c.in-Ok.is in
    let room = c.requires.room passed in
    let rest = c.errors_all.ensures.rest in
    record {
      controllers_in_bounds = rw (rest, c.errors_all.ensures.places.0) (room.numbered, room.controllers_fit);
      objects_in_bounds = rw (rest, c.errors_all.ensures.places.1) room.objects_fit;
      lent = rw rest room.lent;
      sheet_room = rw rest room.sheet_fits;
    }

pub returns-in-Ok-clause-done : goal.returns-in-Ok-clause-done
returns-in-Ok-clause-done g c =
    let a = c.args in
    let passed : verdict_reason a.gate ≡ 0 = rw c.in-Ok.is in
    controllers_passed (verdict_reason a.gate) (g.K.CorePlaces.core a.core.now) a.ram.now a.size (turn_of a.turn) passed c.errors_all.ensures.rest (rw c.controller_count-count.ensures at c.errors_all.ensures.errors) c.turn_all-told.ensures.done

pub returns-in-Err-clause-done : goal.returns-in-Err-clause-done
returns-in-Err-clause-done g c =
    let a = c.args in
    let refused : eqb (verdict_reason a.gate) 0 ≡ false = rw c.in-Err.is (reason_named c.in-Err.field-0) in
    polled_refused (verdict_reason a.gate) (g.K.CorePlaces.core a.core.now) a.ram.now _ _ refused refl
