-- The test of all places, that of the pools and that of the errors make up the test of the core.
use Prim.Native.Nat.{◌≤◌}
use mathlib.Core.Path.{◌≡◌, refl, ap, sym}
use mathlib.Core.Bool.{Bool, true, false, cond, ◌&&◌, and-true, and-false}
use Rattle.rules.specs.Limits.{Limits}
use Rattle.rules.specs.Repeat.{all_below}
use Rattle.rules.specs.Core.{Core, core_valid, has_places, counts_valid, nothing_in_use, owner_place_valid, controller_place_valid, mailbox_place_valid, all_errors_valid}
use Rattle.laws.proofs.Tests.{left, right}
use Rattle.core_validity.specs.Tests.{places_valid, errors_places_valid}
use Rattle.core_validity.specs.Pools.{pools_valid}
use Rattle.core_validity.proofs.Parts.{counts_fit}

pooled_last : (counts owned pooled controllers mailboxes : Bool) → (counts && (owned && pooled) && controllers && mailboxes) ≡ (counts && owned && controllers && mailboxes && pooled)
pooled_last counts owned true controllers mailboxes = rw (and-true owned) (sym (and-true (counts && owned && controllers && mailboxes)))
pooled_last counts owned false controllers mailboxes = rw (and-false owned, and-false counts) (sym (and-false (counts && owned && controllers && mailboxes)))

pub core_parts : (L : Limits) (core : Core) → core_valid L core ≡ (places_valid L core && pools_valid L.objects core.owners core.object_count && all_errors_valid L core)
unfolding core_valid places_valid
core_parts L core =
    ap (λ (b : Bool). b && all_errors_valid L core)
    (pooled_last (has_places L core && cond core.initialised (counts_valid L core.controller_count core.object_count) (nothing_in_use core))
    (all_below L.objects (owner_place_valid core.controller_count core.object_count core.owners))
    (pools_valid L.objects core.owners core.object_count) (all_below L.controllers (controller_place_valid core)) (all_below L.objects (mailbox_place_valid core)))

-- The errors are tested as the rules test them, whatever else the core is.
pub errors_parts : (L : Limits) (core : Core) → errors_places_valid L.controllers core.controller_count core.controllers core.errors ≡ all_errors_valid L core
errors_parts L core = refl

-- Valid places have room for every object in use.
pub places_within : (L : Limits) (core : Core) → places_valid L core ≡ true → core.object_count ≤ L.objects
unfolding places_valid
places_within L core t =
    let counts = cond core.initialised (counts_valid L core.controller_count core.object_count) (nothing_in_use core) in
    let owned = all_below L.objects (owner_place_valid core.controller_count core.object_count core.owners) in
    let controllers = all_below L.controllers (controller_place_valid core) in
    let first = left (has_places L core && counts) owned (left (has_places L core && counts && owned) controllers (left (has_places L core && counts && owned && controllers) _ t)) in
    (counts_fit L.controllers L.objects core.controller_count core.object_count core.initialised (right (has_places L core) counts first)).1
