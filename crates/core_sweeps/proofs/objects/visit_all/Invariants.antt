-- The objects below h are visited as the rules say. Each visit takes one busy mailbox away, so that the room that was there for all of them is
-- enough.
use Rattle.core_sweeps.specs.Visits.{visit_of}
use Rattle.std.proofs.Common.{◌≡◌}
use Rattle.rules.specs.Core.{with_mailboxes}
use Rattle.core_places.specs.Names.{SameNames}
use Rattle.core_sweeps.proofs.Visits.{Sweeping}
use Rattle.core_sweeps.proofs.objects.visit_all.Given as goal

abbrev pub invariant-loop-h : goal.invariant-loop-h
invariant-loop-h g l =
    let core = g.K.CorePlaces.core l.core in
    let start = g.K.CorePlaces.core l.initial.core in
    Sweeping (visit_of l.visit l.size l.two_bytes start.owners l.ram) l.count l.from start.mailboxes l.initial.sheet core.mailboxes l.sheet l.told l.h
    × (core ≡ with_mailboxes start core.mailboxes)
    × (g.K.CorePlaces.controllers l.core ≡ g.K.CorePlaces.controllers l.initial.core)
    × (g.K.CorePlaces.objects l.core ≡ g.K.CorePlaces.objects l.initial.core)
    × (g.K.CorePlaces.error_places l.core ≡ g.K.CorePlaces.error_places l.initial.core)
    × SameNames (g.K.CorePlaces.memory l.core) (g.K.CorePlaces.memory l.initial.core)
