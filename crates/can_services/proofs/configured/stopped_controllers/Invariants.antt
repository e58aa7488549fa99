-- The controllers passed are STOPPED, the others at rest.
use mathlib.Core.Path.{◌≡◌}
use mathlib.Core.Bool.{cond}
use lib.Dec.{ltb}
use Rattle.rules.specs.Repeat.{list_below}
use Rattle.rules.specs.Core.{idle_controller}
use Rattle.rules.specs.Services.{stopped_controller}
use Rattle.rules.specs.Chip.{chip}
use Rattle.can_services.proofs.configured.stopped_controllers.Given as goal

abbrev pub invariant-loop-c : goal.invariant-loop-c
invariant-loop-c l = l.controllers ≡ list_below chip.controllers (λ i. cond (ltb i l.c) stopped_controller idle_controller)
