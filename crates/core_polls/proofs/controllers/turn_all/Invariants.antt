-- The controllers below c have had their turn as the rules say. Each adds one notification at most beyond the mailboxes that were busy, so that
-- the room for all controllers and objects in use is enough.
use mathlib.Core.Path.{◌≡◌}
use Rattle.core_places.specs.Names.{SameNames}
use Rattle.core_polls.specs.Turns.{turn_of}
use Rattle.core_polls.proofs.Turns.{Turning}
use Rattle.core_polls.proofs.controllers.turn_all.Given as goal

abbrev pub invariant-loop-c : goal.invariant-loop-c
invariant-loop-c g l =
    Turning (turn_of l.turn) l.size l.ram (g.K.CorePlaces.core l.initial.core) l.initial.sheet (g.K.CorePlaces.core l.core) l.sheet l.told l.c
    × (g.K.CorePlaces.controllers l.core ≡ g.K.CorePlaces.controllers l.initial.core)
    × (g.K.CorePlaces.objects l.core ≡ g.K.CorePlaces.objects l.initial.core)
    × (g.K.CorePlaces.error_places l.core ≡ g.K.CorePlaces.error_places l.initial.core)
    × SameNames (g.K.CorePlaces.memory l.core) (g.K.CorePlaces.memory l.initial.core)
