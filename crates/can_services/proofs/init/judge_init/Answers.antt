-- The tests on the way to each return pick the first reason that applies.
use mathlib.Core.Path.{◌≡◌, ap, sym, ◌∙◌}
use Rattle.std.specs.Prelude.{is_some}
use Rattle.rules.specs.Reason.{first_reason}
use Rattle.can_config.proofs.Answered.{read_accepted}
use Rattle.can_services.proofs.init.judge_init.Goals as goal

pub returns-then-initialised-clause-reason : goal.returns-then-initialised-clause-reason
unfolding first_reason
returns-then-initialised-clause-reason c = rw c.if-initialised.true

pub returns-in-Some-clause-reason : goal.returns-in-Some-clause-reason
unfolding first_reason
returns-in-Some-clause-reason c =
    let good = sym (ap is_some c.in-Some.is) ∙ read_accepted c.args.bytes.now c.read.result c.read.ensures in
    rw (c.if-initialised.false, ← good)

pub returns-in-None-clause-reason : goal.returns-in-None-clause-reason
unfolding first_reason
returns-in-None-clause-reason c =
    let bad = sym (ap is_some c.in-None.is) ∙ read_accepted c.args.bytes.now c.read.result c.read.ensures in
    rw (c.if-initialised.false, ← bad)
