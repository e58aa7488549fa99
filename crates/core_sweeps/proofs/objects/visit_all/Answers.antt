use Prim.Native.Nat.{◌<◌}
use native.Mathlib.Omega.{arith}
use mathlib.Core.Path.{◌≡◌, refl, ap, ◌∙◌}
use Rattle.std.proofs.Common.{rules}
use Rattle.rules.specs.Core.{Core}
use Rattle.core_sweeps.proofs.Visits.{object_within, sweep_begins, visit_frees, busy_room, sweep_goes_on}
use Rattle.core_sweeps.proofs.objects.visit_all.Goals as goal

pub loop-h-init : goal.loop-h-init
loop-h-init g c = (sweep_begins _ _ _ _ _, refl, refl, refl, refl, search rules)

pub visit_one-told-requires : goal.visit_one-told-requires
visit_one-told-requires g c =
    let a = c.args in
    let core = g.K.CorePlaces.core a.core.now in
    let lent = c.requires.lent in
    let within : c.loop-h.h < a.count = c.loop-h-test.true in
    let fits = object_within a.size c.loop-h.h a.count a.ram.now within lent.objects_fit in
    let room = busy_room (visit_frees a.visit a.size a.two_bytes core.owners a.ram.now) c.loop-h.invariant.0 c.requires.sheet_room within in
    record { object_in_bounds = omega (arith, c.requires.count_in_bounds, within, c.loop-h.invariant.3); object_bound = (omega arith, lent.head_fits, fits); sheet_room = room }

pub loop-h-preserved : goal.loop-h-preserved
loop-h-preserved g c =
    let a = c.args in
    let core = g.K.CorePlaces.core a.core.now in
    let at = c.loop-h in
    let one = c.visit_one-told.ensures in
    let kept : (g.K.CorePlaces.core at.core).owners ≡ core.owners = ap (λ (x : Core). x.owners) at.invariant.1 in (
      sweep_goes_on (visit_frees a.visit a.size a.two_bytes core.owners a.ram.now) at.invariant.0 c.requires.sheet_room (omega arith) (rw kept at one.visited) c.visit_one-told.auto.sheet,
      one.rest ∙ rw at.invariant.1,
      search rules,
      search rules,
      search rules,
      search rules,
    )
