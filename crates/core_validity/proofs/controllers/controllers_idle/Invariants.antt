-- `ok` is the test of all places passed, which begin at the count.
use mathlib.Core.Path.{◌≡◌}
use Rattle.rules.specs.Core.{controller_at, controller_idle}
use Rattle.core_validity.specs.Tests.{all_from}
use Rattle.core_validity.proofs.controllers.controllers_idle.Given as goal

abbrev pub invariant-loop-c : goal.invariant-loop-c
invariant-loop-c g l = l.ok ≡ all_from l.c l.count (λ i. controller_idle (controller_at (g.K.ControllerList.places l.controllers) i))
