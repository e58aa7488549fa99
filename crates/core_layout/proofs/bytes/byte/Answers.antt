-- The part of one byte is the one that is read.
use mathlib.Core.Path.{sym, ◌∙◌}
use Rattle.laws.proofs.Splices.{number_one}
use Rattle.core_layout.proofs.bytes.byte.Goals as goal

pub returns : goal.returns
returns c = let a = c.args in c.from.ensures ∙ sym (number_one a.at a.bytes.now)
