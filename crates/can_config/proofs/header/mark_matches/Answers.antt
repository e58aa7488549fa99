-- The byte string is the header of the rules.
use mathlib.Core.Path.{◌∙◌}
use lib.ListN.{take}
use Rattle.rules.specs.Can.{header}
use Rattle.can_config.proofs.Laws.{starts_same}
use Rattle.can_config.proofs.header.mark_matches.Goals as goal

pub returns : goal.returns
returns c = c.starts_with.ensures.value ∙ starts_same header (take 3 c.args.bytes.now)
