-- `none` says that no controller passed is STARTED.
use mathlib.Core.Path.{◌≡◌}
use mathlib.Core.Bool.{not}
use Rattle.rules.specs.Repeat.{all_below}
use Rattle.rules.specs.Core.{controller_at, is_started}
use Rattle.core_services.proofs.deinit.some_started.Given as goal

abbrev pub invariant-loop-c : goal.invariant-loop-c
invariant-loop-c g l = l.none ≡ all_below l.c (λ c. not (is_started (controller_at (g.K.CorePlaces.core l.core).controllers c)))
