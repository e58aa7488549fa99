-- The choice of who sends next: a pass over the objects.
use Prim.Native.Nat.{ℕ, ◌+◌}
use Rattle.std.specs.Prelude.{Option}
use mathlib.Core.Path.{◌≡◌, refl, ap, ◌∙◌}
use mathlib.Core.Bool.{Bool, ◌&&◌}
use mathlib.Core.List.{List}
use lib.Dec.{eqb}
use Rattle.rules.specs.Repeat.{best_below}
use Rattle.rules.specs.Core.{Owner, Mailbox, Core, owner_at, mailbox_at}
use Rattle.rules.specs.Events.{has_unsent, competes}
use Rattle.core_events.specs.declared.pick.Picked.{Picked}
use Rattle.core_events.specs.Pick.{view_pick, better_pick}
use Rattle.core_events.proofs.Picks.{picked, picked_seen, again}
use Rattle.can_arbitration.specs.Choice.{rank_in, best_waiting}

module _ (core : Core) (c : ℕ) (ram : List ℕ) where
  -- the objects below h are compared
  abbrev pub Choosing : Option Picked → ℕ → Type 0
  Choosing best h = best ≡ picked (rank_in ram) (best_below h (competes core c) (rank_in ram))

  -- by what is read of object h, whether it competes or not
  pub choice_goes_on : (h : ℕ) {best r : Option Picked} {owner : Owner} {m : Mailbox} {fits : Bool} → Choosing best h → owner ≡ owner_at core.owners h → m ≡ mailbox_at core.mailboxes h
      → fits ≡ (eqb owner.controller c && has_unsent m) → r ≡ better_pick h fits (rank_in ram h) best → Choosing r (h + 1)
  choice_goes_on h chosen whose box e compared = again (competes core c) (rank_in ram) h chosen (e ∙ rw (whose, box)) refl compared

  pub choice_ends : {best : Option Picked} → Choosing best core.object_count → view_pick best ≡ best_waiting core c ram
  choice_ends chosen = ap view_pick chosen ∙ picked_seen (rank_in ram) (best_below core.object_count (competes core c) (rank_in ram))
