-- The choice of an arrival's object: a pass over all of them.
use Prim.Native.Nat.{ℕ, ◌+◌}
use Rattle.std.specs.Prelude.{None}
use mathlib.Core.Path.{◌≡◌, refl, ap, ◌∙◌}
use mathlib.Core.Bool.{Bool, beq, true, false, ◌&&◌}
use mathlib.Core.List.{List}
use lib.Dec.{eqb}
use Rattle.rules.specs.Repeat.{best_below}
use Rattle.rules.specs.Core.{Owner, Mailbox, owner_at, mailbox_at}
use Rattle.rules.specs.Configuration.{settings_at}
use Rattle.rules.specs.State.{State}
use Rattle.rules.specs.Events.{fits_frame, best_object}
use Rattle.rules.specs.Can.{Settings, can_format, filter_accepts}
use Rattle.core_events.specs.Pick.{view_pick}
use Rattle.core_events.proofs.Picks.{picked, picked_seen, again}
use Rattle.can_arrivals.specs.declared.choice.Choice.{Choice}
use Rattle.can_arrivals.specs.Choice.{Compared, Chosen}

-- all filters rank alike
abbrev rank : ℕ → ℕ
rank h = 0

module _ (s : State can_format) (c identifier : ℕ) where
  -- an object receives frames of this controller
  abbrev own : Owner → Bool
  own owner = owner.receiving && eqb owner.controller c

  -- its filter accepts this identifier
  abbrev accepted : Settings → Bool
  accepted settings = filter_accepts identifier settings.code settings.mask settings.payload

  -- object h fits a frame with this identifier, and is full or empty as asked
  abbrev candidate : Bool → ℕ → Bool
  candidate full h =
      fits_frame c (owner_at s.core.owners h) (accepted (settings_at can_format s.settings h)) && beq (mailbox_at s.core.mailboxes h).rx_full full

  -- A pass over the objects: those below h are compared.
  pub record Choosing (best : Choice) (h : ℕ) : Type 0 where
    pub empty_so : best.empty ≡ picked rank (best_below h (candidate false) rank)
    pub full_so : best.full ≡ picked rank (best_below h (candidate true) rank)

  pub choice_begins : Choosing (record { empty = None; full = None }) 0
  unfolding best_below
  choice_begins = record { empty_so = refl; full_so = refl }

  -- one more object, by what is read of it
  module _ {best : Choice} {h : ℕ} (chosen : Choosing best h) {owner : Owner} (whose : owner ≡ owner_at s.core.owners h) where
    pub choice_goes_on : {m : Mailbox} {settings : Settings} {r : Choice} → own owner ≡ true → m ≡ mailbox_at s.core.mailboxes h → settings ≡ settings_at can_format s.settings h
        → Compared h (accepted settings) m.rx_full best r → Choosing r (h + 1)
    choice_goes_on e box known x =
        record {
          empty_so = again (candidate false) rank h chosen.empty_so (rw (← whose, e, ← known, ← box)) refl x.empty_is;
          full_so = again (candidate true) rank h chosen.full_so (rw (← whose, e, ← known, ← box)) refl x.full_is;
        }

    -- one that belongs to another controller or sends is passed over
    pub choice_stays : own owner ≡ false → Choosing best (h + 1)
    choice_stays e =
        record {
          empty_so = again (candidate false) rank h {f = false} chosen.empty_so (rw (← whose, e)) refl refl;
          full_so = again (candidate true) rank h {f = false} chosen.full_so (rw (← whose, e)) refl refl;
        }

  pub choice_ends : {best : Choice} → Choosing best s.core.object_count → (sdu : List ℕ) → Chosen s c (record { identifier = identifier; sdu = sdu }) best
  unfolding best_object
  choice_ends x sdu =
      record {
        empty_is = ap view_pick x.empty_so ∙ picked_seen rank (best_below s.core.object_count (candidate false) rank);
        full_is = ap view_pick x.full_so ∙ picked_seen rank (best_below s.core.object_count (candidate true) rank);
      }
