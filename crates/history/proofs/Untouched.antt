-- The sweeps of the polls leave an object untouched that they do not close: its mailbox, and no closing notice names it.
use Prim.Native.Nat.{ℕ}
use mathlib.Core.Path.{◌≡◌, refl, sym, ◌∙◌, subst}
use mathlib.Core.Bool.{true, false, ◌&&◌}
use mathlib.Core.List.{List}
use lib.Seq.{get_or-set_other}
use lib.Dec.{eqb}
use borrow.Author.Tests.{ne_eqb}
use Rattle.rules.specs.Core.{Controller, Mailbox, Core, empty_mailbox, controller_at, owner_at, mailbox_at}
use Rattle.rules.specs.Polls.{Boxes, Visit, Turn, visit_all, turn_all, boxes_of, closing}
use Rattle.history.specs.Notices.{one_of, closes, closed_in}
use Rattle.history.proofs.Notices.{still_none, closes_named}
use Rattle.history.proofs.Sweeps.{freed, visits_keep, turns_keep}

-- object h still has the mailbox m
pub record Untouched (h : ℕ) (m : Mailbox) (b : Boxes) : Type 0 where
  pub same : mailbox_at b.mailboxes h ≡ m
  pub unclosed : closed_in h b.notifications ≡ false

-- where a sweep begins
pub at_first : (core : Core) (h : ℕ) → Untouched h (mailbox_at core.mailboxes h) (boxes_of core)
unfolding one_of
at_first core h = record { same = refl; unclosed = refl }

module _ (h : ℕ) (m : Mailbox) where
  -- a sweep over the objects at which object h is not due, and that names another object where that is
  pub visits_untouched : (v : Visit) → (v.due h m ≡ true → ⊥) → ((i : ℕ) (x : Mailbox) → (i ≡ h → ⊥) → closes h (v.note i x) ≡ false)
      → (n : ℕ) (b : Boxes) → Untouched h m b → Untouched h m (visit_all v n b)
  visits_untouched v spared others = visits_keep (Untouched h m) v one
    where
      one : (i : ℕ) (b : Boxes) → Untouched h m b → v.due i (mailbox_at b.mailboxes i) ≡ true → Untouched h m (freed v i b)
      one i b u due =
          let apart : i ≡ h → ⊥ = λ e. spared (subst (λ (x : Mailbox). v.due h x ≡ true) u.same (subst (λ (j : ℕ). v.due j (mailbox_at b.mailboxes j) ≡ true) e due)) in
          record {
            same = get_or-set_other b.mailboxes i h empty_mailbox empty_mailbox (λ e. apart (sym e)) ∙ u.same;
            unclosed = still_none (closes h) b.notifications _ u.unclosed (others i (mailbox_at b.mailboxes i) apart);
          }

  -- a sweep over the controllers, if the object is not pending or its controller does not leave the bus
  pub turns_untouched : (size : ℕ) (t : Turn) (core : Core) (ram : List ℕ) → ((c : ℕ) (k : Controller) → closes h (t.note c k) ≡ false)
      → ((c : ℕ) → t.due (controller_at core.controllers c) ≡ true → t.leaves (controller_at core.controllers c) ≡ true
      → (eqb (owner_at core.owners h).controller c && m.tx_pending) ≡ true → ⊥)
      → Untouched h m (boxes_of core) → Untouched h m (turn_all size t core ram).boxes
  turns_untouched size t core ram quiet spared =
      turns_keep size t core ram (Untouched h m)
      (λ c k b u. record { same = u.same; unclosed = still_none (closes h) b.notifications (t.note c k) u.unclosed (quiet c k) })
      (λ c due leaves. visits_untouched (closing size core.owners ram c) (spared c due leaves) (λ i x d. closes_named h i _ x ∙ ne_eqb i h d) core.object_count)
