-- Changes of a valid core that keep it valid: one mailbox, a sweep over the mailboxes, one controller with its mailboxes.
use Prim.Native.Nat.{ℕ, ◌≤◌, ◌<◌}
use mathlib.Core.Path.{◌≡◌, refl, sym, ◌∙◌}
use mathlib.Core.Bool.{Bool, true, false, not, cond, ◌&&◌, ◌||◌}
use mathlib.Core.List.{List}
use mathlib.Core.Logic.{◌⊎◌, inl, inr}
use native.Mathlib.Omega.{arith}
use native.Mathlib.Decide.{ℕ_discrete}
use lib.ListN.{length, set, length-set}
use lib.Seq.{get_or-set_same, get_or-set_other}
use lib.Dec.{eqb, ltb, leb}
use borrow.Author.Tests.{lt-ltb, ltb-true, ltb-false, leb-true, eqb-true}
use Rattle.rules.specs.Limits.{Limits}
use Rattle.rules.specs.Core.{Controller, Mailbox, Core, idle_controller, empty_mailbox, controller_at, owner_at, mailbox_at, mailbox_valid, mailbox_empty, controller_valid, is_started, controller_place_valid, mailbox_place_valid, nothing_in_use, counts_valid, controller_of, with_mailboxes, with_controllers}
use Rattle.rules.specs.Polls.{Visit, visit_all, boxes_of}
use Rattle.laws.proofs.Tests.{left, right, clash, decide, cond_both}
use Rattle.laws.proofs.Validity.{Valid}
use Rattle.laws.proofs.Sweeps.{boxes_length, boxes_above, boxes_below}

-- an object without a pending frame suits a controller in any mode
pub not_pending : (receiving started other : Bool) (m : Mailbox) → mailbox_valid receiving started m ≡ true → m.tx_pending ≡ false → mailbox_valid receiving other m ≡ true
not_pending receiving started other m v free = rw free (rw free at v)

-- what suits a controller that is not STARTED has no pending frame
pub pending_needs_started : (receiving : Bool) (m : Mailbox) → mailbox_valid receiving false m ≡ true → m.tx_pending ≡ false
pending_needs_started receiving m v = go m.tx_pending receiving (left (not m.tx_pending || not receiving && false) (not m.tx_done || m.tx_pending) (left ((not m.tx_pending || not receiving && false) && (not m.tx_done || m.tx_pending)) (not m.rx_full || receiving) v))
  where
    go : (p r : Bool) → (not p || not r && false) ≡ true → p ≡ false
    go false r e = refl
    go true true e = clash refl (sym e)
    go true false e = clash refl (sym e)

-- an empty mailbox is valid at every place
pub empty_valid : (in_use receiving started : Bool) → cond in_use (mailbox_valid receiving started empty_mailbox) (mailbox_empty empty_mailbox) ≡ true
empty_valid true receiving started = refl
empty_valid false receiving started = refl

module _ (L : Limits) (core : Core) (v : Valid L core) where
  -- no more is in use than there are places
  pub controllers_within : core.controller_count ≤ L.controllers
  controllers_within = go core.initialised v.counts
    where
      go : (b : Bool) → cond b (counts_valid L core.controller_count core.object_count) (nothing_in_use core) ≡ true → core.controller_count ≤ L.controllers
      go true e =
          leb-true core.controller_count L.controllers
          (right (leb 1 core.controller_count) (leb core.controller_count L.controllers)
          (left (leb 1 core.controller_count && leb core.controller_count L.controllers) (leb core.object_count L.objects) e))
      go false e =
          let z = eqb-true core.controller_count 0 (left (eqb core.controller_count 0) (eqb core.object_count 0) e) in
          omega arith

  pub objects_within : core.object_count ≤ L.objects
  objects_within = go core.initialised v.counts
    where
      go : (b : Bool) → cond b (counts_valid L core.controller_count core.object_count) (nothing_in_use core) ≡ true → core.object_count ≤ L.objects
      go true e =
          leb-true core.object_count L.objects
          (right (leb 1 core.controller_count && leb core.controller_count L.controllers) (leb core.object_count L.objects) e)
      go false e =
          let z = eqb-true core.object_count 0 (right (eqb core.controller_count 0) (eqb core.object_count 0) e) in
          omega arith

  -- other mailboxes, each valid at its place
  pub mailboxes_valid : (ms : List Mailbox) → length ms ≡ L.objects → ((h : ℕ) → h < L.objects → mailbox_place_valid (with_mailboxes core ms) h ≡ true) → Valid L (with_mailboxes core ms)
  mailboxes_valid ms long places =
      record {
        controller_places = v.controller_places;
        owner_places = v.owner_places;
        mailbox_places = long;
        counts = v.counts;
        owners = v.owners;
        controllers = v.controllers;
        mailboxes = places;
      }

  -- one mailbox of an object in use
  pub set-mailbox_valid : (h : ℕ) (m : Mailbox) → h < core.object_count
      → mailbox_valid (owner_at core.owners h).receiving (is_started (controller_at core.controllers (owner_at core.owners h).controller)) m ≡ true
      → Valid L (with_mailboxes core (set core.mailboxes h m))
  set-mailbox_valid h m k mv = mailboxes_valid (set core.mailboxes h m) (length-set core.mailboxes h m ∙ v.mailbox_places) place
    where
      place : (i : ℕ) → i < L.objects → mailbox_place_valid (with_mailboxes core (set core.mailboxes h m)) i ≡ true
      place i l = go (ℕ_discrete i h)
        where
          go : Dec (i ≡ h) → mailbox_place_valid (with_mailboxes core (set core.mailboxes h m)) i ≡ true
          go (yes e) =
              let fits : h < length core.mailboxes = rw v.mailbox_places (rw e at l) in
              rw (e, lt-ltb h core.object_count k, get_or-set_same core.mailboxes h m empty_mailbox fits) mv
          go (no d) = rw (get_or-set_other core.mailboxes h i m empty_mailbox d) (v.mailboxes i l)

  -- a sweep that frees some of the mailboxes
  pub sweep_valid : (visit : Visit) (n : ℕ) → Valid L (with_mailboxes core (visit_all visit n (boxes_of core)).mailboxes)
  sweep_valid visit n = mailboxes_valid (visit_all visit n (boxes_of core)).mailboxes (boxes_length visit (boxes_of core) n ∙ v.mailbox_places) place
    where
      -- the place with a mailbox m in it
      holds : ℕ → Mailbox → Bool
      holds i m =
          cond (ltb i core.object_count) (mailbox_valid (owner_at core.owners i).receiving (is_started (controller_of core i)) m) (mailbox_empty m)

      place : (i : ℕ) → i < L.objects → mailbox_place_valid (with_mailboxes core (visit_all visit n (boxes_of core)).mailboxes) i ≡ true
      place i l = go (decide (ltb i n))
        where
          go : (ltb i n ≡ true) ⊎ (ltb i n ≡ false) → holds i (mailbox_at (visit_all visit n (boxes_of core)).mailboxes i) ≡ true
          go (inl t) =
              rw (boxes_below visit (boxes_of core) n i (ltb-true i n t))
              (cond_both (λ (m : Mailbox). holds i m ≡ true) (visit.due i (mailbox_at core.mailboxes i)) empty_mailbox (mailbox_at core.mailboxes i)
              (λ e. empty_valid (ltb i core.object_count) (owner_at core.owners i).receiving (is_started (controller_of core i)))
              (λ e. v.mailboxes i l))
          go (inr t) = rw (boxes_above visit (boxes_of core) n i (ltb-false i n t)) (v.mailboxes i l)

  -- one controller in use, with mailboxes that suit it: its own objects' as given, the others' as they were
  pub set-controller_valid : (c : ℕ) (k : Controller) (ms : List Mailbox) → c < core.controller_count
      → controller_valid k ≡ true → length ms ≡ L.objects
      → ((h : ℕ) → h < core.object_count → (owner_at core.owners h).controller ≡ c
      → mailbox_valid (owner_at core.owners h).receiving (is_started k) (mailbox_at ms h) ≡ true)
      → ((h : ℕ) → ((owner_at core.owners h).controller ≡ c → core.object_count ≤ h) → mailbox_at ms h ≡ mailbox_at core.mailboxes h)
      → Valid L (with_mailboxes (with_controllers core (set core.controllers c k)) ms)
  set-controller_valid c k ms in_use kv long own others =
      record {
        controller_places = length-set core.controllers c k ∙ v.controller_places;
        owner_places = v.owner_places;
        mailbox_places = long;
        counts = v.counts;
        owners = v.owners;
        controllers = control;
        mailboxes = place;
      }
    where
      fits : c < length core.controllers
      fits = rw v.controller_places (let w = controllers_within in omega arith)

      control : (i : ℕ) → i < L.controllers → controller_place_valid (with_controllers core (set core.controllers c k)) i ≡ true
      control i l = go (ℕ_discrete i c)
        where
          go : Dec (i ≡ c) → controller_place_valid (with_controllers core (set core.controllers c k)) i ≡ true
          go (yes e) = rw (e, lt-ltb c core.controller_count in_use, get_or-set_same core.controllers c k idle_controller fits) kv
          go (no d) = rw (get_or-set_other core.controllers c i k idle_controller d) (v.controllers i l)

      place : (h : ℕ) → h < L.objects → mailbox_place_valid (with_mailboxes (with_controllers core (set core.controllers c k)) ms) h ≡ true
      place h l = go (decide (ltb h core.object_count)) (ℕ_discrete (owner_at core.owners h).controller c)
        where
          go : (ltb h core.object_count ≡ true) ⊎ (ltb h core.object_count ≡ false) → Dec ((owner_at core.owners h).controller ≡ c)
              → mailbox_place_valid (with_mailboxes (with_controllers core (set core.controllers c k)) ms) h ≡ true
          go (inl t) (yes e) = rw (t, e, get_or-set_same core.controllers c k idle_controller fits) (own h (ltb-true h core.object_count t) e)
          go (inl t) (no d) =
              rw (t, get_or-set_other core.controllers c (owner_at core.owners h).controller k idle_controller d, others h (λ e. absurd (d e)))
              (rw t at (v.mailboxes h l))
          go (inr t) q = rw (t, others h (λ e. ltb-false h core.object_count t)) (rw t at (v.mailboxes h l))
