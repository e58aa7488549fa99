-- `ok` is the test of all places passed, which begin at the count.
use mathlib.Core.Path.{◌≡◌}
use Rattle.rules.specs.Errors.{errors_none}
use Rattle.rules.specs.Core.{errors_at}
use Rattle.core_validity.specs.Tests.{all_from}
use Rattle.core_validity.proofs.errors.errors_rest.Given as goal

abbrev pub invariant-loop-c : goal.invariant-loop-c
invariant-loop-c g l = l.ok ≡ all_from l.c l.count (λ i. errors_none (errors_at (g.E.ErrorList.places l.errors) i))
