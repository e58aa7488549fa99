use mathlib.Core.Path.{◌∙◌}
use Rattle.can_writer.proofs.BigEndian.{bytes_4}
use Rattle.can_writer.proofs.record.code_bytes.Goals as goal

pub returns-else-version-owner : goal.returns-else-version-owner
returns-else-version-owner c = rw c.if-version-owner.false (c.to_be_bytes.ensures ∙ bytes_4 c.args.code)
