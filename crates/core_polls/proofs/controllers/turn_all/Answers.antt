use Prim.Native.Nat.{◌<◌}
use native.Mathlib.Omega.{arith}
use mathlib.Core.Path.{refl}
use Rattle.std.proofs.Common.{rules}
use Rattle.core_polls.proofs.Turns.{turns_begin, turn_room, turn_count, turns_go_on, turns_end}
use Rattle.core_polls.proofs.controllers.turn_all.Goals as goal

pub loop-c-init : goal.loop-c-init
loop-c-init g c = (turns_begin _ _ _ _ _, refl, refl, refl, search rules)

pub turn_one-told-requires : goal.turn_one-told-requires
turn_one-told-requires g c =
    let at = c.loop-c in
    let start = g.K.CorePlaces.core c.args.core.now in
    let inside : at.c < start.controller_count = omega (arith, c.controller_count-c-end.ensures) in
    let count = turn_count at.invariant.0 c.requires.sheet_room in
    let room = turn_room at.invariant.0 c.requires.sheet_room in
    record {
      controller_bound = (omega (arith, inside, c.requires.controllers_in_bounds.0), omega (arith, inside, c.requires.controllers_in_bounds.1, at.invariant.1));
      count_in_bounds = rw (count, at.invariant.2) c.requires.objects_in_bounds;
      lent = rw count c.requires.lent;
      sheet_room = let same = at.invariant.0.same_sheet in let enough = c.requires.sheet_room in omega (arith, inside, room, same, enough);
    }

pub loop-c-preserved : goal.loop-c-preserved
loop-c-preserved g c =
    let start = g.K.CorePlaces.core c.args.core.now in
    let inside : c.loop-c.c < start.controller_count = omega (arith, c.controller_count-c-end.ensures) in
    (turns_go_on c.loop-c.invariant.0 c.requires.sheet_room inside c.turn_one-told.ensures.done c.turn_one-told.auto.sheet, search rules, search rules, search rules, search rules)

pub returns-clause-done : goal.returns-clause-done
returns-clause-done g c = turns_end c.loop-c.invariant.0 c.requires.sheet_room (omega (arith, c.controller_count-c-end.ensures))
