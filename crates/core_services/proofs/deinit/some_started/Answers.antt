-- Past the last place there is no controller that could be STARTED.
use Prim.Native.Nat.{ℕ, ◌≤◌, min}
use native.Mathlib.Omega.{arith}
use mathlib.Core.Path.{◌≡◌, sym, ap, ◌∙◌}
use mathlib.Core.Bool.{Bool, not}
use lib.ListN.{length, get_or-eq_default}
use Rattle.rules.specs.Core.{Controller, controller_at, idle_controller, is_started}
use Rattle.laws.proofs.Repeat.{all_below_from}
use Rattle.core_services.proofs.deinit.some_started.Goals as goal

pub returns : goal.returns
returns g c =
    let at = c.loop-c in
    let core = g.K.CorePlaces.core c.args.core.now in
    let ks = core.controllers in
    let rests : ℕ → Bool = λ i. not (is_started (controller_at ks i)) in
    let end : at.c ≡ min core.controller_count (length ks) = omega (arith, c.controller_count.ensures, c.controller_places.ensures, c.limited-end.ensures) in
    ap not
    (at.invariant
    ∙ sym
    (all_below_from rests at.c core.controller_count (omega arith)
    (λ i from below.
    let past : length ks ≤ i = omega arith in
    ap (λ (k : Controller). not (is_started k)) (get_or-eq_default ks idle_controller past))))
