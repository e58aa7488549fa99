-- What is due is busy, so that there is room for its notification.
use mathlib.Core.Path.{ap, sym, ◌∙◌}
use Rattle.rules.specs.Core.{Owner}
use Rattle.laws.proofs.Bounds.{mailbox_busy}
use Rattle.core_sweeps.proofs.Visits.{visit_frees}
use Rattle.core_sweeps.proofs.objects.visit_one.Goals as goal

pub free_object-requires : goal.free_object-requires
free_object-requires g c =
    let a = c.args in
    let core = g.K.CorePlaces.core a.core.now in
    let due = sym (c.visit_due.ensures a.size a.two_bytes core.owners a.ram.now a.object (sym (ap (λ (o : Owner). o.controller) c.read_owner.ensures))) ∙ c.if-visit_due.true in
    let busy = sym (ap mailbox_busy c.read_mailbox-m.ensures) ∙ visit_frees a.visit a.size a.two_bytes core.owners a.ram.now a.object _ due in
    record { object_in_bounds = c.requires.object_in_bounds; sheet_room = c.requires.sheet_room busy }
