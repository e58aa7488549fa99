use mathlib.Core.Path.{◌≡◌}
use native.Mathlib.Omega.{arith}
use Rattle.can_state.specs.View.{state_of}
use Rattle.can_arrivals.proofs.Choices.{choice_begins, choice_goes_on, choice_stays, choice_ends}
use Rattle.can_arrivals.proofs.choice.choose.Goals as goal
use Rattle.can_arrivals.proofs.choice.choose.Goals.{then-own, else-own}

pub loop-h-init : goal.loop-h-init
loop-h-init g c = choice_begins _ _ _

pub loop-h-preserved : goal.loop-h-preserved
loop-h-preserved g c =
    let more = c.loop-h.invariant in
    let owner = c.read_owner-owner.ensures in
    elim c.if-own.branch [
      | then-own w ↦ rw w.best-is (choice_goes_on _ _ _ more owner w.if-own.true w.read_mailbox-full.ensures w.read_settings.ensures w.compare-best.ensures)
      | else-own w ↦ rw w.best-is (choice_stays _ _ _ more owner w.if-own.false)
    ]

pub returns : goal.returns
returns g c sdu =
    let s = state_of (g.K.CorePlaces.core c.args.core.now) (g.S.SettingsList.places c.args.settings.now) in
    let all : c.loop-h.h ≡ s.core.object_count = omega (arith, c.object_count-h-end.ensures) in
    choice_ends s c.args.controller c.args.identifier (rw all at c.loop-h.invariant) sdu
