use Prim.Native.Nat.{◌≤◌, min}
use native.Mathlib.Omega.{arith}
use native.Mathlib.Numerals.{add-one}
use mathlib.Core.Path.{refl, sym, ◌∙◌}
use Rattle.rules.specs.Repeat.{all_below}
use Rattle.rules.specs.Chip.{chip}
use Rattle.core_validity.proofs.LowestTable.{table_fresh, table_more, table_places}
use Rattle.can_state.proofs.Laws.{agreed_more, own_agreed}
use Rattle.can_state.proofs.agreement.pools_agree.Goals as goal

pub returns-then-own_pools : goal.returns-then-own_pools
returns-then-own_pools c =
    let own = rw c.limited-end.ensures at (sym c.own_pools.ensures ∙ c.if-own_pools.true) in
    own_agreed c.args.owners.now c.args.settings.now (min c.args.count chip.objects) (omega arith) own

pub loop-h-init : goal.loop-h-init
unfolding all_below
loop-h-init c = (refl, table_fresh c.args.owners.now chip.objects chip.objects, refl)

pub loop-h-preserved : goal.loop-h-preserved
loop-h-preserved c =
    let at = c.loop-h in
    let os = c.args.owners.now in
    let found = c.lowest_member-lowest.ensures in
    let past : at.h ≤ chip.objects = omega arith in (
      rw found.1 (table_places os at.table at.h ∙ at.invariant.0),
      rw (found.1, add-one) (table_more os chip.objects at.h at.table at.invariant.1 past),
      agreed_more os c.args.settings.now at.h at.table at.invariant.1 past at.invariant.0 at.invariant.2 found.0 c.pool_valid-valid.ensures c.agrees.ensures,
    )
