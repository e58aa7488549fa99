-- `core_answers::verdict::busy_or_not_ok` meets its contract: no rejection has reason 0, and only a busy object's is CAN_BUSY.
-- Assumes nothing.
use borrow.Author.Tests.{eq-eqb, ne_eqb}
use mathlib.Core.Path.{sym, ◌∙◌}
use Rattle.rules.specs.Reason.{return_code}
use Rattle.core_answers.proofs.Laws.{reason_named}
use Rattle.core_answers.proofs.verdict.busy_or_not_ok.Goals as goal

pub returns-then-reason : goal.returns-then-reason
unfolding return_code
returns-then-reason c =
    let r = c.args.r in
    rw (reason_named r, eq-eqb _ _ (sym c.reason.ensures ∙ c.if-reason.true ∙ c.reason-2.ensures))

pub returns-else-reason : goal.returns-else-reason
unfolding return_code
returns-else-reason c =
    let r = c.args.r in
    rw (reason_named r, ne_eqb _ _ (λ e. c.if-reason.false (c.reason.ensures ∙ e ∙ sym c.reason-2.ensures)))
