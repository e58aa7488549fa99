-- The table holds the lowest members among the objects passed, and none of those breaks a rule.
use mathlib.Core.Path.{◌≡◌}
use lib.ListN.{length}
use Rattle.std.specs.Prelude.{Ok}
use Rattle.core_validity.specs.Pools.{Tabled}
use Rattle.can_config.specs.Seen.{setup_seen}
use Rattle.can_config.specs.View.{view_setup}
use Rattle.can_faults.specs.Fault.{pool_fault, first_fault}
use Rattle.can_faults.proofs.Seen.{numbers}
use Rattle.can_faults.proofs.pools.pools_fault.Given as goal

abbrev pub invariant-loop-object : goal.invariant-loop-object
invariant-loop-object l =
    record {
      size : length l.table ≡ numbers;
      table : Tabled l.setup-inside.owners numbers l.object-counter l.table;
      none : first_fault l.object-counter (pool_fault (view_setup (setup_seen l.setup-inside))) ≡ Ok tt;
    }
