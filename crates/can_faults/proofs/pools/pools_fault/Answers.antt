use native.Mathlib.Omega.{arith}
use native.Mathlib.Numerals.{add-one}
use mathlib.Core.Path.{refl, ap, ◌∙◌}
use Rattle.rules.specs.Configuration.{Configuration}
use Rattle.rules.specs.Can.{can_format}
use Rattle.can_config.specs.Seen.{setup_seen}
use Rattle.can_config.specs.View.{view_setup}
use Rattle.core_validity.proofs.LowestTable.{table_fresh, table_more, table_places}
use Rattle.can_faults.specs.Fault.{first_fault}
use Rattle.can_faults.proofs.Laws.{none_more, found}
use Rattle.can_faults.proofs.Seen.{numbers, fault_met}
use Rattle.can_faults.proofs.pools.pools_fault.Goals as goal

pub loop-object-init : goal.loop-object-init
unfolding first_fault
loop-object-init c = record { size = refl; table = table_fresh c.setup.inside.owners numbers numbers; none = refl }

pub returns-in_err-map_err : goal.returns-in_err-map_err
returns-in_err-map_err c =
    let many = ap (λ (s : Configuration can_format). s.object_count) c.setup.view_is in
    let at = c.loop-object in
    let here = fault_met (view_setup (setup_seen c.setup.inside)) at.object-counter at.table (omega (arith, many)) at.invariant.size at.invariant.table (rw (← c.setup.view_is) at c.pool_rule.ensures.byte) c.lowest_member-lowest.ensures.0 (rw (← c.setup.view_is) at c.pool_rule.ensures.rule) in
    rw (← c.setup.view_is) (grind (arith, found))

pub loop-object-preserved : goal.loop-object-preserved
loop-object-preserved c =
    let many = ap (λ (s : Configuration can_format). s.object_count) c.setup.view_is in
    let os = c.setup.inside.owners in
    let at = c.loop-object in
    let h = at.object-counter in
    let here = fault_met (view_setup (setup_seen c.setup.inside)) h at.table (omega (arith, many)) at.invariant.size at.invariant.table (rw (← c.setup.view_is) at c.pool_rule.ensures.byte) c.lowest_member-lowest.ensures.0 (rw (← c.setup.view_is) at c.pool_rule.ensures.rule) in
    let left = c.lowest_member-lowest.ensures.1 in
    record {
      size = rw left (table_places os at.table h ∙ at.invariant.size);
      table = rw (left, add-one) (table_more os numbers h at.table at.invariant.table (omega (arith, many)));
      none = grind (arith, none_more);
    }
