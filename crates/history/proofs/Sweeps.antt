-- What the polls keep: any property of the mailboxes and the notifications that each visit, or each turn, keeps.
use Prim.Native.Nat.{ℕ, zero, suc}
use mathlib.Core.Path.{◌≡◌, sym, subst}
use mathlib.Core.Bool.{true}
use mathlib.Core.List.{List, [], ◌∷◌, ◌++◌}
use native.Mathlib.Nat.{le_refl}
use native.Mathlib.Decide.{ℕ_discrete}
use lib.ListN.{set}
use lib.Seq.{get_or-set_other}
use Rattle.rules.specs.Repeat.{rising}
use Rattle.rules.specs.Notification.{Notification}
use Rattle.rules.specs.Core.{Controller, Mailbox, Core, empty_mailbox, controller_at, mailbox_at}
use Rattle.rules.specs.Polls.{Boxes, Sweep, Visit, Turn, notify, visit_one, visit_all, closing, turn_one, turn_all, boxes_of, sweep_of}
use Rattle.laws.proofs.Tests.{cond_both}
use Rattle.laws.proofs.Repeat.{rising_keeps}
use Rattle.laws.proofs.Sweeps.{set_default, turns_above}

-- an object that is due is told of and free again
abbrev pub freed : Visit → ℕ → Boxes → Boxes
freed v i b = record { mailboxes = set b.mailboxes i empty_mailbox; notifications = b.notifications ++ (v.note i (mailbox_at b.mailboxes i) ∷ []) }

pub visits_keep : (P : Boxes → Type 0) (v : Visit) → ((i : ℕ) (b : Boxes) → P b → v.due i (mailbox_at b.mailboxes i) ≡ true → P (freed v i b))
    → (n : ℕ) (b : Boxes) → P b → P (visit_all v n b)
unfolding visit_all
visits_keep P v step n b p =
    rising_keeps P (visit_one v) n (λ i l x q. cond_both P (v.due i (mailbox_at x.mailboxes i)) (freed v i x) x (step i x q) (λ t. q)) b p

module _ (size : ℕ) (t : Turn) (core : Core) (ram : List ℕ) where
  pub turns_keep : (P : Boxes → Type 0) → ((c : ℕ) (k : Controller) (b : Boxes) → P b → P (notify (t.note c k) b))
      → ((c : ℕ) → t.due (controller_at core.controllers c) ≡ true → t.leaves (controller_at core.controllers c) ≡ true
      → (b : Boxes) → P b → P (visit_all (closing size core.owners ram c) core.object_count b))
      → P (boxes_of core) → P (turn_all size t core ram).boxes
  unfolding turn_all rising
  turns_keep P told closes p = go core.controller_count
    where
      go : (n : ℕ) → P (rising n (turn_one size t core ram) (sweep_of core)).boxes
      go zero = p
      go (suc n) =
          let w = rising n (turn_one size t core ram) (sweep_of core) in
          let k = controller_at w.controllers n in
          let met = turns_above size t core ram n n (le_refl n) in
          cond_both (λ (x : Sweep). P x.boxes) (t.due k) _ w
          (λ due. told n k _
          (cond_both P (t.leaves k) (visit_all (closing size core.owners ram n) core.object_count w.boxes) w.boxes
          (λ leaves. closes n (subst (λ (x : Controller). t.due x ≡ true) met due) (subst (λ (x : Controller). t.leaves x ≡ true) met leaves) w.boxes (go n))
          (λ stays. go n)))
          (λ idle. go n)

-- The same at one object h, of its mailbox and of the notifications so far.
module _ (h : ℕ) (P : Mailbox → List Notification → Type 0) where
  abbrev pub Here : Boxes → Type 0
  Here b = P (mailbox_at b.mailboxes h) b.notifications

  -- a visit keeps it where it frees the object, and where it tells of another
  pub record Keeps (v : Visit) : Type 0 where
    pub own : (m : Mailbox) (ns : List Notification) → P m ns → v.due h m ≡ true → P empty_mailbox (ns ++ (v.note h m ∷ []))
    pub other : (i : ℕ) (x m : Mailbox) (ns : List Notification) → (i ≡ h → ⊥) → P m ns → P m (ns ++ (v.note i x ∷ []))

  pub visits_keep_here : (v : Visit) → Keeps v → (n : ℕ) (b : Boxes) → Here b → Here (visit_all v n b)
  visits_keep_here v keeps = visits_keep Here v (λ i b p due. go i b p due (ℕ_discrete i h))
    where
      own : (b : Boxes) → Here b → v.due h (mailbox_at b.mailboxes h) ≡ true → Here (freed v h b)
      own b p due =
          subst (λ (m : Mailbox). P m (freed v h b).notifications) (sym (set_default b.mailboxes h empty_mailbox)) (keeps.own (mailbox_at b.mailboxes h) b.notifications p due)

      go : (i : ℕ) (b : Boxes) → Here b → v.due i (mailbox_at b.mailboxes i) ≡ true → Dec (i ≡ h) → Here (freed v i b)
      go i b p due (yes e) = subst (λ (j : ℕ). v.due j (mailbox_at b.mailboxes j) ≡ true → Here (freed v j b)) (sym e) (own b p) due
      go i b p due (no d) =
          subst (λ (m : Mailbox). P m (freed v i b).notifications) (sym (get_or-set_other b.mailboxes i h empty_mailbox empty_mailbox (λ e. d (sym e))))
          (keeps.other i (mailbox_at b.mailboxes i) (mailbox_at b.mailboxes h) b.notifications d p)

  -- so does a turn, if its own notification does
  pub turns_keep_here : (size : ℕ) (t : Turn) (core : Core) (ram : List ℕ) → ((c : ℕ) (k : Controller) (m : Mailbox) (ns : List Notification) → P m ns → P m (ns ++ (t.note c k ∷ [])))
      → ((c : ℕ) → Keeps (closing size core.owners ram c)) → Here (boxes_of core) → Here (turn_all size t core ram).boxes
  turns_keep_here size t core ram told keeps =
      turns_keep size t core ram Here (λ c k b p. told c k (mailbox_at b.mailboxes h) b.notifications p)
      (λ c due leaves. visits_keep_here (closing size core.owners ram c) (keeps c) core.object_count)
