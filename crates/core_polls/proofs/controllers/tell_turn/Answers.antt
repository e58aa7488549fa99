-- The controller's own notification stands behind those that close its objects; there is room for all of them.
use native.Mathlib.Omega.{arith}
use Rattle.core_sweeps.proofs.Visits.{swept_told}
use Rattle.core_polls.proofs.Turns.{closed_room}
use Rattle.core_polls.proofs.controllers.tell_turn.Goals as goal

pub tell-requires : goal.tell-requires
tell-requires g c =
    let a = c.args in
    let told = closed_room c.leaves_bus-leaves.result a.size (g.K.CorePlaces.core a.core.now) a.ram.now a.controller (g.K.CorePlaces.core a.core.now).mailboxes c.close_if-told.ensures.told in
    let room = c.requires.sheet_room in
    let long = c.close_if-told.auto.sheet in
    omega arith

pub returns-clause-told : goal.returns-clause-told
returns-clause-told g c =
    let a = c.args in
    let closed = c.close_if-told.ensures.told in
    let told = closed_room c.leaves_bus-leaves.result a.size (g.K.CorePlaces.core a.core.now) a.ram.now a.controller (g.K.CorePlaces.core a.core.now).mailboxes closed in
    let room = c.requires.sheet_room in
    rw (← c.leaves_bus-leaves.ensures, ← c.turn_note-n.ensures) (swept_told a.from a.sheet.now closed _ c.tell.ensures (omega arith))
