-- `can_frame::identifier::priority` meets its contract: a mask of ones below bit n is the remainder by 2 ^ n.
-- Assumes nothing.
use Prim.Native.Nat.{◌/◌, ◌^◌}
use mathlib.Core.Path.{sym, ◌∙◌}
use native.Mathlib.Omega.{arith}
use lib.Bits.{and_mask}
use Rattle.can_frame.proofs.identifier.priority.Goals as goal

pub rank-requires : goal.rank-requires
rank-requires c = let x = c.args.identifier in omega (arith, and_mask (x / 2 ^ 18) 11, and_mask x 18)

pub rank-requires-else-is_extended : goal.rank-requires-else-is_extended
rank-requires-else-is_extended c = let x = c.args.identifier in omega (arith, and_mask x 11)

pub returns-then-is_extended : goal.returns-then-is_extended
returns-then-is_extended c =
    let x = c.args.identifier in
    c.rank.ensures ∙ rw (sym c.is_extended.ensures ∙ c.if-is_extended.true, and_mask (x / 2 ^ 18) 11, and_mask x 18)

pub returns-else-is_extended : goal.returns-else-is_extended
returns-else-is_extended c =
    let x = c.args.identifier in
    c.rank-else-is_extended.ensures ∙ rw (sym c.is_extended.ensures ∙ c.if-is_extended.false, and_mask x 11)
