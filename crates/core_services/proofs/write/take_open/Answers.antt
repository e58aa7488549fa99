-- The member that takes a frame is in use.
use mathlib.Core.Path.{sym, ap, ◌∙◌}
use native.Mathlib.Omega.{arith}
use Rattle.core_answers.specs.Answer.{verdict_reason}
use Rattle.core_services.proofs.Laws.{taken_in_use}
use Rattle.core_services.proofs.write.take_open.Goals as goal

pub set_mailbox-requires : goal.set_mailbox-requires
set_mailbox-requires g c =
    let a = c.args in
    let used = taken_in_use (g.K.CorePlaces.core a.core.now) a.object (verdict_reason a.frame) (sym c.judge_open.ensures ∙ ap verdict_reason c.in_ok-judge_open.was) in
    omega (arith, used, c.requires.0, c.free_member-member.ensures)

pub overflow_cast-result : goal.overflow_cast-result
overflow_cast-result g c =
    let a = c.args in
    let used = taken_in_use (g.K.CorePlaces.core a.core.now) a.object (verdict_reason a.frame) (sym c.judge_open.ensures ∙ ap verdict_reason c.in_ok-judge_open.was) in
    record { fits = omega (arith, used, c.requires, c.free_member-member.ensures) }
