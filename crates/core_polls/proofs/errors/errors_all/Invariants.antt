-- The errors of the controllers below c have had their turn as the rules say.
use mathlib.Core.Path.{◌≡◌}
use Rattle.rules.specs.Core.{with_errors}
use Rattle.rules.specs.Polls.{errors_all}
use Rattle.core_places.specs.Names.{SameNames}
use Rattle.core_polls.specs.Turns.{turn_of}
use Rattle.core_polls.proofs.errors.errors_all.Given as goal

abbrev pub invariant-loop-c : goal.invariant-loop-c
invariant-loop-c g l =
    let core = g.K.CorePlaces.core l.core in
    let start = g.K.CorePlaces.core l.initial.core in
    (core ≡ with_errors start core.errors)
    × (core.errors ≡ errors_all (turn_of l.turn) l.c start.controllers start.errors)
    × (g.K.CorePlaces.controllers l.core ≡ g.K.CorePlaces.controllers l.initial.core)
    × (g.K.CorePlaces.objects l.core ≡ g.K.CorePlaces.objects l.initial.core)
    × (g.K.CorePlaces.error_places l.core ≡ g.K.CorePlaces.error_places l.initial.core)
    × SameNames (g.K.CorePlaces.memory l.core) (g.K.CorePlaces.memory l.initial.core)
