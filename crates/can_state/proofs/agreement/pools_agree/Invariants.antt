-- The table holds the lowest members among the objects passed, and `ok` is the test of those objects.
use mathlib.Core.Path.{◌≡◌}
use lib.ListN.{length}
use Rattle.rules.specs.Chip.{chip}
use Rattle.core_validity.specs.Pools.{Tabled}
use Rattle.can_state.specs.Tests.{pools_agreed}
use Rattle.can_state.proofs.agreement.pools_agree.Given as goal

abbrev pub invariant-loop-h : goal.invariant-loop-h
invariant-loop-h l = (length l.table ≡ chip.objects) × Tabled l.owners chip.objects l.h l.table × (l.ok ≡ pools_agreed l.h l.owners l.settings)
