-- The run written so far is the first i bytes of the source. A turn's store makes it longer by one.
use mathlib.Core.Path.{◌≡◌}
use lib.ListN.{take}
use Rattle.rules.specs.Bytes.{splice}
use Rattle.core_layout.proofs.bytes.put_bytes.Given as goal

abbrev pub invariant-loop-i : goal.invariant-loop-i
invariant-loop-i l = l.ram ≡ splice l.at (take l.i l.source) l.initial.ram
