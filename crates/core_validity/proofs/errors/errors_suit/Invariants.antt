-- `ok` is the test of all places passed.
use mathlib.Core.Path.{◌≡◌}
use Rattle.core_validity.specs.Tests.{errors_suit}
use Rattle.core_validity.proofs.errors.errors_suit.Given as goal

abbrev pub invariant-loop-c : goal.invariant-loop-c
invariant-loop-c g l = l.ok ≡ errors_suit (g.K.ControllerList.places l.controllers) (g.E.ErrorList.places l.errors) l.c
