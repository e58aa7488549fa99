-- The choice is the rules', and the pick decides which of the ends it is.
use mathlib.Core.Path.{ap, sym, ◌∙◌}
use mathlib.Core.Bool.{false}
use native.Mathlib.Omega.{arith}
use Rattle.core_events.specs.Pick.{view_pick}
use Rattle.can_state.specs.View.{state_of}
use Rattle.can_arrivals.proofs.Arrivals.{chosen_in_use}
use Rattle.can_arrivals.proofs.received.received.Goals as goal

pub store-requires-clause-object_lt_objects : goal.store-requires-clause-object_lt_objects
store-requires-clause-object_lt_objects g c =
    let a = c.args in
    let chosen = c.choose-choice.ensures a.sdu.now in
    let used = chosen_in_use (state_of (g.K.CorePlaces.core a.core.now) (g.S.SettingsList.places a.settings.now)) a.controller (record { identifier = a.identifier; sdu = a.sdu.now }) false c.in-Some.best.number (sym chosen.empty_is ∙ ap view_pick c.in-Some.is) in
    let few = c.requires.room.0.objects_fit in
    let held = c.requires.places.0 in
    (omega arith, omega arith)

pub returns-in-Some-clause-performed : goal.returns-in-Some-clause-performed
returns-in-Some-clause-performed g c =
    let chosen = c.choose-choice.ensures c.args.sdu.now in
    rw (sym chosen.empty_is ∙ ap view_pick c.in-Some.is) (c.store.ensures.performed c.args.sheet.now)

pub returns-in-None-clause-performed : goal.returns-in-None-clause-performed
returns-in-None-clause-performed g c =
    let chosen = c.choose-choice.ensures c.args.sdu.now in
    rw (sym chosen.empty_is ∙ ap view_pick c.in-None.is, ← chosen.full_is) (c.not_stored.ensures (state_of (g.K.CorePlaces.core c.args.core.now) (g.S.SettingsList.places c.args.settings.now)) c.args.ram.now)
