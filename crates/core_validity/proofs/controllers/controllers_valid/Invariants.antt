-- `ok` is the test of all places passed.
use mathlib.Core.Path.{◌≡◌}
use Rattle.core_validity.specs.Tests.{controllers_valid}
use Rattle.core_validity.proofs.controllers.controllers_valid.Given as goal

abbrev pub invariant-loop-c : goal.invariant-loop-c
invariant-loop-c g l = l.ok ≡ controllers_valid (g.K.ControllerList.places l.controllers) l.c
