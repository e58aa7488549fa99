-- What is left of a controller's objects once they are closed, and of the others.
use Prim.Native.Nat.{ℕ, ◌≤◌, ◌<◌}
use mathlib.Core.Path.{◌≡◌}
use mathlib.Core.Bool.{Bool, true}
use mathlib.Core.List.{List}
use native.Mathlib.Omega.{arith}
use native.Mathlib.Decide.{dec_lt}
use borrow.Author.Tests.{eq-eqb, ne_eqb}
use Rattle.rules.specs.Core.{Owner, Mailbox, empty_mailbox, owner_at, mailbox_at, mailbox_valid}
use Rattle.rules.specs.Polls.{Boxes, visit_all, closing}
use Rattle.laws.proofs.Tests.{cond_both}
use Rattle.laws.proofs.Sweeps.{boxes_above, boxes_below}
use Rattle.laws.proofs.Changes.{not_pending, empty_valid}

module _ (size : ℕ) (owners : List Owner) (count : ℕ) (ram : List ℕ) (c : ℕ) (b : Boxes) (h : ℕ) where
  abbrev closed : Boxes
  closed = visit_all (closing size owners ram c) count b

  -- an object of controller c suits it in any mode
  pub closed_own : h < count → (owner_at owners h).controller ≡ c → (receiving started other : Bool)
      → mailbox_valid receiving started (mailbox_at b.mailboxes h) ≡ true → mailbox_valid receiving other (mailbox_at closed.mailboxes h) ≡ true
  closed_own l e receiving started other v =
      let m = mailbox_at b.mailboxes h in
      rw (boxes_below (closing size owners ram c) b count h l, eq-eqb (owner_at owners h).controller c e)
      (cond_both (λ (x : Mailbox). mailbox_valid receiving other x ≡ true) m.tx_pending empty_mailbox m
      (λ p. empty_valid true receiving other)
      (λ p. not_pending receiving started other m v p))

  -- any other object keeps its mailbox
  pub closed_others : ((owner_at owners h).controller ≡ c → count ≤ h) → mailbox_at closed.mailboxes h ≡ mailbox_at b.mailboxes h
  closed_others other = go (dec_lt h count)
    where
      go : Dec (h < count) → mailbox_at closed.mailboxes h ≡ mailbox_at b.mailboxes h
      go (yes l) =
          rw (boxes_below (closing size owners ram c) b count h l, ne_eqb (owner_at owners h).controller c (λ e. let k = other e in omega arith))
      go (no n) = boxes_above (closing size owners ram c) b count h (omega arith)
