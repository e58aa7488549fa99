-- The tests together are the rules' test; the counts that are in use matter only where they are valid.
use Prim.Native.Nat.{ℕ, ◌≤◌, min}
use mathlib.Core.Path.{◌≡◌, sym, ap, ◌∙◌}
use mathlib.Core.Bool.{Bool, true, ◌&&◌}
use native.Mathlib.Omega.{arith}
use lib.Dec.{leb}
use borrow.Author.Tests.{leb-true}
use Rattle.rules.specs.Repeat.{all_below}
use Rattle.rules.specs.Core.{counts_valid, owner_place_valid}
use Rattle.rules.specs.Configuration.{settings_agreed}
use Rattle.rules.specs.Can.{can_format}
use Rattle.rules.specs.Chip.{chip}
use Rattle.laws.proofs.Tests.{right}
use Rattle.core_validity.specs.Pools.{pools_valid}
use Rattle.core_validity.proofs.Laws.{and_pairs}
use Rattle.can_state.specs.Tests.{settings_places_valid, pools_agreed}
use Rattle.can_config.specs.Seen.{setup_seen}
use Rattle.can_config.specs.View.{view_setup}
use Rattle.can_writer.proofs.judge.configuration_valid.Goals as goal

pub returns-clause-valid : goal.returns-clause-valid
returns-clause-valid c =
    let given = view_setup (setup_seen c.setup.inside) in
    let k = given.controller_count in
    let n = given.object_count in
    let os = given.owners in
    let ss = given.settings in
    let counted : Bool = counts_valid chip k n in
    let owned : Bool = all_below chip.objects (owner_place_valid k n os) in
    let suited : Bool = settings_places_valid n os ss in
    let pooled : Bool = pools_valid chip.objects os n in
    let agreed : Bool = settings_agreed can_format n os ss in
    let all : counted ≡ true → pools_agreed (min n chip.objects) os ss ≡ pools_agreed n os ss = λ t.
    let within : n ≤ chip.objects = leb-true n chip.objects (right (leb 1 k && leb k chip.controllers) (leb n chip.objects) t) in
    let same : min n chip.objects ≡ n = omega arith in
    ap (λ (m : ℕ). pools_agreed m os ss) same in
    let t : counted ≡ true = sym c.counts_valid-counted.ensures ∙ c.if-not-counted.false in
    rw (← c.setup.view_is, c.owners_valid-owned.ensures.valid, c.settings_places_valid-suited.ensures.valid, c.pools_agree-pooled.ensures)
    (ap (λ (p : Bool). owned && suited && p) (all t)
    ∙ and_pairs owned suited pooled agreed
    ∙ ap (λ (b : Bool). b && (owned && pooled) && (suited && agreed)) (sym t))
