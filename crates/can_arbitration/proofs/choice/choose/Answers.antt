use mathlib.Core.Path.{◌≡◌, refl, sym, ◌∙◌}
use native.Mathlib.Omega.{arith}
use Rattle.rules.specs.Repeat.{best_below}
use Rattle.can_arbitration.proofs.Choices.{choice_goes_on, choice_ends}
use Rattle.can_arbitration.proofs.choice.choose.Goals as goal
use Rattle.can_arbitration.proofs.choice.choose.Goals.{then-competes, else-competes}

pub loop-h-init : goal.loop-h-init
unfolding best_below
loop-h-init g c = refl

pub loop-h-preserved : goal.loop-h-preserved
loop-h-preserved g c =
    let a = c.args in
    let at = c.loop-h in
    let core = g.K.CorePlaces.core a.core.now in
    let owner = c.read_owner-owner.ensures in
    let box = c.read_mailbox.ensures in
    let fits = c.competes.ensures in
    elim c.if-competes.branch [
      | then-competes w ↦ choice_goes_on core a.controller a.ram.now at.h at.invariant owner box (sym w.if-competes.true ∙ fits) (w.best-is ∙ w.better-best.ensures ∙ rw w.rank_at.ensures)
      | else-competes w ↦ choice_goes_on core a.controller a.ram.now at.h at.invariant owner box (sym w.if-competes.false ∙ fits) w.best-is
    ]

pub returns : goal.returns
returns g c =
    let core = g.K.CorePlaces.core c.args.core.now in
    let all : c.loop-h.h ≡ core.object_count = omega (arith, c.object_count-h-end.ensures) in
    choice_ends core c.args.controller c.args.ram.now (rw all at c.loop-h.invariant)
