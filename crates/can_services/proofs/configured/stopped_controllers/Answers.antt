use Prim.Native.Nat.{ℕ, min}
use native.Mathlib.Omega.{arith}
use mathlib.Core.Path.{◌≡◌, refl, ap, ◌∙◌}
use mathlib.Core.Bool.{cond}
use lib.Dec.{ltb}
use Rattle.rules.specs.Repeat.{list_below}
use Rattle.rules.specs.Core.{idle_controller}
use Rattle.rules.specs.Services.{stopped_controller}
use Rattle.rules.specs.Chip.{chip}
use Rattle.can_config.proofs.Laws.{fill_more}
use Rattle.can_services.proofs.Stopped.{limited_list}
use Rattle.can_services.proofs.configured.stopped_controllers.Goals as goal

pub loop-c-preserved : goal.loop-c-preserved
loop-c-preserved c =
    let at = c.loop-c in
    c.set.ensures ∙ fill_more chip.controllers at.c (λ i. stopped_controller) idle_controller (omega arith) at.invariant c.stopped_controller.ensures

pub returns : goal.returns
returns c =
    let at = c.loop-c in
    let count = c.args.count in
    let end : at.c ≡ min count chip.controllers = omega arith in
    at.invariant ∙ ap (λ (n : ℕ). list_below chip.controllers (λ i. cond (ltb i n) stopped_controller idle_controller)) end
    ∙ limited_list chip.controllers count stopped_controller idle_controller
