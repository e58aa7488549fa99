-- What operators ask of the polls, proved.
use Prim.Native.Nat.{ℕ}
use mathlib.Core.Path.{◌≡◌, refl, ◌∙◌}
use mathlib.Core.Bool.{true}
use mathlib.Core.List.{List}
use lib.Dec.{eqb}
use borrow.Author.Tests.{ne_eqb}
use Rattle.rules.specs.Limits.{Limits}
use Rattle.rules.specs.Format.{Format}
use Rattle.rules.specs.Core.{Core, owner_at, mailbox_at}
use Rattle.rules.specs.State.{State, valid}
use Rattle.rules.specs.Outcome.{Outcome, lifted, full_gate}
use Rattle.rules.specs.Polls as polls
use Rattle.rules.specs.Polls.{Boxes, boxes_of, confirmation, mode_change, going_off, polled}
use Rattle.rules.specs.Calls.{main_function_write, main_function_mode, main_function_bus_off}
use Rattle.history.specs.Operators.{ObjectKept, OthersKept, FrameSurvives, OthersRule, ReceivedRule}
use Rattle.history.specs.Notices.{one_of}
use Rattle.laws.proofs.Tests.{right, both, clash}
use Rattle.laws.proofs.Reasons.{judged_either}
use Rattle.laws.proofs.Validity.{core_facts, state_core}
use Rattle.history.proofs.Notices.{closes_named}
use Rattle.history.proofs.Objects.{mailbox_flags}
use Rattle.history.proofs.Untouched.{Untouched, at_first, visits_untouched, turns_untouched}
use Rattle.history.proofs.Quiet.{staying_untouched}

module _ (L : Limits) (F : Format) (s : State F) (sheet : ℕ) (ram : List ℕ) (h : ℕ) where
  -- a poll whose sweep leaves the object untouched keeps it, refused or not
  poll_keeps : (next : Core) (b : Boxes) → next.mailboxes ≡ b.mailboxes → Untouched h (mailbox_at s.core.mailboxes h) b
      → ObjectKept L F s sheet ram h (lifted s (polled (full_gate L F s sheet ram) s.core ram next b.notifications))
  unfolding one_of
  poll_keeps next b e u =
      judged_either (λ (o : Outcome Core). ObjectKept L F s sheet ram h (lifted s o)) _ _ _
      (record { mailbox = refl; bytes = refl; not_closed = refl })
      (λ r. record { mailbox = rw e u.same; bytes = refl; not_closed = u.unclosed })

  others_kept : OthersKept L F s sheet ram h
  unfolding main_function_mode main_function_bus_off polls.main_function_mode polls.main_function_bus_off
  others_kept =
      let c = (owner_at s.core.owners h).controller in
      record {
        mode_poll = λ e. poll_keeps _ _ refl (staying_untouched L.object_size mode_change s.core ram h (λ k x. refl) c refl (λ due leaves. clash (both due leaves) e));
        bus_off_poll = λ e. poll_keeps _ _ refl (staying_untouched L.object_size going_off s.core ram h (λ k x. refl) c refl (λ due leaves. clash due e));
      }

  frame_survives : valid L F s ≡ true → (mailbox_at s.core.mailboxes h).rx_full ≡ true → FrameSurvives L F s sheet ram h
  unfolding main_function_write main_function_mode main_function_bus_off polls.main_function_write polls.main_function_mode polls.main_function_bus_off
  frame_survives sound full =
      let m = mailbox_at s.core.mailboxes h in
      let flags = mailbox_flags L s.core (core_facts L s.core (state_core L F s sound)) h in
      let free = flags.full_free full in
      let begin = at_first s.core h in
      record {
        write_poll = poll_keeps _ _ refl (visits_untouched h m (confirmation L.object_size ram) (λ done. clash (flags.done_pending done) free) (λ i x d. closes_named h i _ x ∙ ne_eqb i h d) s.core.object_count (boxes_of s.core) begin);
        mode_poll = poll_keeps _ _ refl (turns_untouched h m L.object_size mode_change s.core ram (λ k x. refl) (λ c due leaves e. clash (right (eqb (owner_at s.core.owners h).controller c) m.tx_pending e) free) begin);
        bus_off_poll = poll_keeps _ _ refl (turns_untouched h m L.object_size going_off s.core ram (λ k x. refl) (λ c due leaves e. clash (right (eqb (owner_at s.core.owners h).controller c) m.tx_pending e) free) begin);
      }

pub others_rule : (L : Limits) (F : Format) → OthersRule L F
others_rule = others_kept

pub received_rule : (L : Limits) (F : Format) → ReceivedRule L F
received_rule = frame_survives
