-- The loop's invariant: no record passed breaks a rule.
use Prim.Native.Nat.{◌≤◌}
use mathlib.Core.Path.{◌≡◌}
use Rattle.std.specs.Prelude.{Ok}
use Rattle.can_faults.specs.Fault.{records_fault}
use Rattle.can_faults.proofs.records.records_fault.Given as goal

abbrev pub invariant-loop-object : goal.invariant-loop-object
invariant-loop-object l =
    (l.object-counter ≤ l.object_count) × (records_fault l.bytes l.version l.controller_count l.object-counter ≡ Ok tt)
