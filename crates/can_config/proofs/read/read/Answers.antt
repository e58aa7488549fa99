-- Where the tests are passed, what is read is what the bytes say.
use mathlib.Core.Path.{sym, ◌∙◌}
use Rattle.can_config.proofs.Accepted.{all_said}
use Rattle.can_config.proofs.read.read.Goals as goal

pub returns-then-pools_agree : goal.returns-then-pools_agree
returns-then-pools_agree c =
    all_said c.args.bytes.now c.number_at-controller_count.ensures c.number_at-object_count.ensures c.outline_valid.ensures c.if-not-outline_valid.false
    c.version_of-version.ensures c.in_ok-setup.ensures (sym c.pools_agree.ensures ∙ c.if-pools_agree.true)
