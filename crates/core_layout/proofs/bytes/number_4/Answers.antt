-- The part of four bytes is the four that are read.
use native.Mathlib.Nat.{add-zero}
use native.Mathlib.Omega.{arith}
use Rattle.rules.specs.Repeat.{list_below}
use Rattle.rules.specs.Bytes.{number}
use Rattle.laws.proofs.Splices.{read_part}
use Rattle.core_layout.proofs.bytes.number_4.Goals as goal

pub returns : goal.returns
unfolding list_below number
returns c =
    let a = c.args in
    rw (← read_part a.at 4 a.bytes.now 0 (omega arith), add-zero a.at) (omega arith)
