-- A valid core and a valid state as facts, and back.
use Prim.Native.Nat.{ℕ, ◌<◌}
use mathlib.Core.Path.{◌≡◌}
use mathlib.Core.Bool.{Bool, true, cond, ◌&&◌}
use lib.ListN.{length}
use lib.Dec.{eqb}
use borrow.Author.Tests.{eqb-true, eq-eqb}
use Rattle.rules.specs.Limits.{Limits}
use Rattle.rules.specs.Format.{Format}
use Rattle.rules.specs.Repeat.{all_below}
use Rattle.rules.specs.Core.{Core, core_valid, has_places, counts_valid, nothing_in_use, owners_valid, owner_place_valid, pool_valid, controller_place_valid, mailbox_place_valid, errors_place_valid, all_errors_valid}
use Rattle.rules.specs.Configuration.{settings_place_valid, settings_agreed, all_settings_valid}
use Rattle.rules.specs.State.{State, with_core, valid}
use Rattle.laws.proofs.Tests.{both, left, right}
use Rattle.laws.proofs.Repeat.{all_facts, facts_all}

pub record Valid (L : Limits) (core : Core) : Type 0 where
  pub controller_places : length core.controllers ≡ L.controllers
  pub owner_places : length core.owners ≡ L.objects
  pub mailbox_places : length core.mailboxes ≡ L.objects
  pub counts : cond core.initialised (counts_valid L core.controller_count core.object_count) (nothing_in_use core) ≡ true
  pub owners : owners_valid L core.controller_count core.object_count core.owners ≡ true
  pub controllers : (c : ℕ) → c < L.controllers → controller_place_valid core c ≡ true
  pub mailboxes : (h : ℕ) → h < L.objects → mailbox_place_valid core h ≡ true

-- what remains of it: the errors of each controller
pub record ErrorsValid (L : Limits) (core : Core) : Type 0 where
  pub places : length core.errors ≡ L.controllers
  pub errors : (c : ℕ) → c < L.controllers → errors_place_valid core c ≡ true

-- each owner is valid at its place, and so is each pool
pub owners_placed : (L : Limits) (core : Core) → Valid L core → (h : ℕ) → h < L.objects → owner_place_valid core.controller_count core.object_count core.owners h ≡ true
owners_placed L core v =
    let place = owner_place_valid core.controller_count core.object_count core.owners in
    all_facts L.objects place (left (all_below L.objects place) (all_below core.object_count (pool_valid L.objects core.owners)) v.owners)

pub pools_valid : (L : Limits) (core : Core) → Valid L core → all_below core.object_count (pool_valid L.objects core.owners) ≡ true
pools_valid L core v =
    right (all_below L.objects (owner_place_valid core.controller_count core.object_count core.owners))
    (all_below core.object_count (pool_valid L.objects core.owners)) v.owners

module _ (L : Limits) (core : Core) where
  P₁ : Bool
  P₁ = has_places L core

  P₂ : Bool
  P₂ = P₁ && cond core.initialised (counts_valid L core.controller_count core.object_count) (nothing_in_use core)

  P₃ : Bool
  P₃ = P₂ && owners_valid L core.controller_count core.object_count core.owners

  P₄ : Bool
  P₄ = P₃ && all_below L.controllers (controller_place_valid core)

  P₅ : Bool
  P₅ = P₄ && all_below L.objects (mailbox_place_valid core)

  pub core_facts : core_valid L core ≡ true → Valid L core
  unfolding core_valid P₁ P₂ P₃ P₄ P₅
  core_facts v =
      let boxes = all_below L.objects (mailbox_place_valid core) in
      let controls = all_below L.controllers (controller_place_valid core) in
      let configs = owners_valid L core.controller_count core.object_count core.owners in
      let counts = cond core.initialised (counts_valid L core.controller_count core.object_count) (nothing_in_use core) in
      let c = eqb (length core.controllers) L.controllers in
      let o = eqb (length core.owners) L.objects in
      let m = eqb (length core.mailboxes) L.objects in
      let v₅ = left P₅ (all_errors_valid L core) v in
      let v₄ = left P₄ boxes v₅ in
      let v₃ = left P₃ controls v₄ in
      let v₂ = left P₂ configs v₃ in
      let v₁ = left P₁ counts v₂ in
      record {
        controller_places = eqb-true (length core.controllers) L.controllers (left c o (left (c && o) m v₁));
        owner_places = eqb-true (length core.owners) L.objects (right c o (left (c && o) m v₁));
        mailbox_places = eqb-true (length core.mailboxes) L.objects (right (c && o) m v₁);
        counts = right P₁ counts v₂;
        owners = right P₂ configs v₃;
        controllers = all_facts L.controllers (controller_place_valid core) (right P₃ controls v₄);
        mailboxes = all_facts L.objects (mailbox_place_valid core) (right P₄ boxes v₅);
      }

  pub error_facts : core_valid L core ≡ true → ErrorsValid L core
  unfolding core_valid P₁ P₂ P₃ P₄ P₅
  error_facts v =
      let places = eqb (length core.errors) L.controllers in
      let each = all_below L.controllers (errors_place_valid core) in
      let own = right P₅ (places && each) v in
      record {
        places = eqb-true (length core.errors) L.controllers (left places each own);
        errors = all_facts L.controllers (errors_place_valid core) (right places each own);
      }

  pub facts_core : Valid L core → ErrorsValid L core → core_valid L core ≡ true
  unfolding core_valid
  facts_core v e =
      both
      (both
      (both
      (both
      (both
      (both (both (eq-eqb _ _ v.controller_places) (eq-eqb _ _ v.owner_places)) (eq-eqb _ _ v.mailbox_places))
      v.counts)
      v.owners)
      (facts_all L.controllers (controller_place_valid core) v.controllers))
      (facts_all L.objects (mailbox_place_valid core) v.mailboxes))
      (both (eq-eqb _ _ e.places) (facts_all L.controllers (errors_place_valid core) e.errors))

-- A call that looks at no frame leaves a valid core, and the owners as they were.
pub record CoreKept (L : Limits) (before after : Core) : Type 0 where
  pub stays : core_valid L after ≡ true
  pub count_kept : after.object_count ≡ before.object_count
  pub owners_kept : after.owners ≡ before.owners

module _ (L : Limits) (F : Format) (s : State F) where
  pub state_core : valid L F s ≡ true → core_valid L s.core ≡ true
  unfolding valid
  state_core v =
      let suits = all_settings_valid L F s.core.object_count s.core.owners s.settings in
      left (core_valid L s.core) (eqb (length s.settings) L.objects) (left (core_valid L s.core && eqb (length s.settings) L.objects) suits v)

  -- the settings of a pool agree
  pub settings_agree : valid L F s ≡ true → settings_agreed F s.core.object_count s.core.owners s.settings ≡ true
  unfolding valid
  settings_agree v =
      let places = all_below L.objects (settings_place_valid F s.core.object_count s.core.owners s.settings) in
      let agreed = settings_agreed F s.core.object_count s.core.owners s.settings in
      right places agreed (right (core_valid L s.core && eqb (length s.settings) L.objects) (places && agreed) v)

  pub core_stays : (next : Core) → CoreKept L s.core next → valid L F s ≡ true → valid L F (with_core s next) ≡ true
  unfolding valid
  core_stays next kept v =
      let suits = all_settings_valid L F s.core.object_count s.core.owners s.settings in
      let front = core_valid L s.core && eqb (length s.settings) L.objects in
      both (both kept.stays (right (core_valid L s.core) (eqb (length s.settings) L.objects) (left front suits v)))
      (rw (kept.count_kept, kept.owners_kept) (right front suits v))
