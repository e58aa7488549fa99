-- Only frames that were not sent are cancelled: what is occupied and gone has a confirmation as its closing notice.
use Prim.Native.Nat.{ℕ}
use mathlib.Core.Path.{◌≡◌, refl, ◌∙◌}
use mathlib.Core.Bool.{Bool, true, false}
use mathlib.Core.List.{List, [], ◌∷◌, ◌++◌}
use lib.Dec.{eqb}
use borrow.Author.Tests.{ne_eqb}
use Rattle.rules.specs.Limits.{Limits}
use Rattle.rules.specs.Format.{Format, Lawful}
use Rattle.rules.specs.Notification.{Notification, tx_confirmation, tx_cancellation}
use Rattle.rules.specs.Configuration.{Configuration, no_configuration}
use Rattle.rules.specs.Core.{Controller, Owner, Mailbox, Core, controller_at, errors_at, owner_at, mailbox_at}
use Rattle.rules.specs.Polls.{object_in}
use Rattle.rules.specs.State.{State, initial_state}
use Rattle.rules.specs.Outcome.{Outcome}
use Rattle.rules.specs.Polls.{Boxes, Visit, Turn, closing_notification, visit_all, turn_all, boxes_of, confirmation, indication, closing, mode_change, going_off}
use Rattle.history.specs.Call.{Call, Init, DeInit, SetControllerMode, AskController, Write, MainFunctionWrite, MainFunctionRead, MainFunctionMode, MainFunctionBusOff, TxComplete, BusOffDetected, ErrorsCounted, FrameArrived, performed}
use Rattle.history.specs.Trace.{trace}
use Rattle.history.specs.Effect.{Effect, accepted_effect, effect}
use Rattle.history.specs.Account.{Account, closed, held, broken, in_force, account_after}
use Rattle.history.specs.Demand1.{service_number}
use Rattle.history.specs.Notices.{one_of, cancels, cancelled_in}
use Rattle.history.specs.LastFrame.{LastFrame, no_frame, frame_after}
use Rattle.history.specs.Cancellation.{UnsentCancelled, OnlyUnsentCancelled, CancellationRule}
use Rattle.laws.proofs.Tests.{cond_both, right, clash}
use Rattle.history.proofs.Judged.{judgement, received_cases, performed_cases}
use Rattle.history.proofs.Notices.{quiet_error, quiet_passive, still_none}
use Rattle.history.proofs.Sweeps.{Here, Keeps, visits_keep_here, turns_keep_here}
use Rattle.history.proofs.Objects.{Matches, Follows, follows_on, follows_first}
use Rattle.history.proofs.LastFrame.{Owned, owned_after}

-- what is occupied is gone
abbrev pub Gone : Mailbox → Type 0
Gone m = m.tx_pending ≡ true → m.tx_done ≡ true

module _ (h : ℕ) where
  -- a sweep on its way: object h is gone or free, and was not cancelled
  record Spared (m : Mailbox) (ns : List Notification) : Type 0 where
    gone : Gone m
    uncancelled : cancelled_in h ns ≡ false

  -- one notification more, which does not cancel the object
  still_spared : (m : Mailbox) (ns : List Notification) (n : Notification) → cancels h n ≡ false → Spared m ns → Spared m (ns ++ (n ∷ []))
  still_spared m ns n quiet q = record { gone = q.gone; uncancelled = still_none (cancels h) ns n q.uncancelled quiet }

  -- a visit spares the object: what is gone is not cancelled, and any other object's notification names that one
  record Spares (v : Visit) : Type 0 where
    own : (m : Mailbox) → Gone m → v.due h m ≡ true → cancels h (v.note h m) ≡ false
    other : (i : ℕ) (m : Mailbox) → (i ≡ h → ⊥) → cancels h (v.note i m) ≡ false

  spares_keeps : (v : Visit) → Spares v → Keeps h Spared v
  spares_keeps v spares =
      record {
        own = λ m ns q due. record { gone = λ e. clash e refl; uncancelled = still_none (cancels h) ns (v.note h m) q.uncancelled (spares.own m q.gone due) };
        other = λ i x m ns d q. still_spared m ns (v.note i x) (spares.other i x d) q;
      }

  visits_spared : (v : Visit) → Spares v → (n : ℕ) (b : Boxes) → Here h Spared b → Here h Spared (visit_all v n b)
  visits_spared v spares = visits_keep_here h Spared v (spares_keeps v spares)

  -- the closing notice of another object
  other_spared : (i handle : ℕ) (m : Mailbox) → (i ≡ h → ⊥) → cancels h (closing_notification m i handle) ≡ false
  other_spared i handle m d =
      cond_both (λ (n : Notification). cancels h n ≡ false) m.tx_done (tx_confirmation i handle) (tx_cancellation i handle) (λ done. refl) (λ waits. ne_eqb i h d)

  module _ (size : ℕ) (ram : List ℕ) where
    confirmation_spares : Spares (confirmation size ram)
    confirmation_spares = record { own = λ m gone done. rw done; other = λ i m d. other_spared i _ m d }

    indication_spares : (length_size : ℕ) → Spares (indication size length_size ram)
    indication_spares length_size = record { own = λ m gone full. refl; other = λ i m d. refl }

    closing_spares : (owners : List Owner) (c : ℕ) → Spares (closing size owners ram c)
    closing_spares owners c =
        record {
          own = λ m gone due. rw (gone (right (eqb (owner_at owners h).controller c) m.tx_pending due));
          other = λ i m d. other_spared i _ m d;
        }

    -- the notification of a turn cancels nothing
    turns_spared : (t : Turn) (core : Core) → ((c : ℕ) (k : Controller) → cancels h (t.note c k) ≡ false) → Here h Spared (boxes_of core) → Here h Spared (turn_all size t core ram).boxes
    turns_spared t core quiet =
        turns_keep_here h Spared size t core ram (λ c k m ns q. still_spared m ns (t.note c k) (quiet c k) q) (λ c. spares_keeps (closing size core.owners ram c) (closing_spares core.owners c))

module _ (L : Limits) (F : Format) (h : ℕ) where
  module _ (s : State F) (ram : List ℕ) (x : LastFrame) (sent_gone : x.sent ≡ true → Gone (mailbox_at s.core.mailboxes h)) where
    -- where the last frame was sent, the call does not cancel it
    abbrev Uncancelled : Effect F → Outcome (State F) → Type 0
    Uncancelled e o = (frame_after F h x e).sent ≡ true → cancelled_in h o.notifications ≡ false

    starts : x.sent ≡ true → Here h (Spared h) (boxes_of s.core)
    unfolding one_of
    starts sent = record { gone = sent_gone sent; uncancelled = refl }

    done_uncancelled : (call : Call F) → Uncancelled (accepted_effect F call (judgement L F call s ram).done.answer) (judgement L F call s ram).done
    unfolding one_of
    done_uncancelled (Init sheet bytes) sent = refl
    done_uncancelled (DeInit sheet) sent = refl
    done_uncancelled (SetControllerMode sheet c asked) sent = refl
    done_uncancelled (AskController q sheet c) sent = refl
    done_uncancelled (Write sheet i handle fits frame) sent = refl
    done_uncancelled (MainFunctionWrite sheet) sent = (visits_spared h _ (confirmation_spares h L.object_size ram) s.core.object_count (boxes_of s.core) (starts sent)).uncancelled
    done_uncancelled (MainFunctionRead sheet) sent = (visits_spared h _ (indication_spares h L.object_size ram L.length_size) s.core.object_count (boxes_of s.core) (starts sent)).uncancelled
    done_uncancelled (MainFunctionMode sheet) sent = (turns_spared h L.object_size ram mode_change s.core (λ c k. refl) (starts sent)).uncancelled
    done_uncancelled (MainFunctionBusOff sheet) sent = (turns_spared h L.object_size ram going_off s.core (λ c k. refl) (starts sent)).uncancelled
    done_uncancelled (TxComplete i) sent = refl
    done_uncancelled (BusOffDetected c) sent = refl
    done_uncancelled (ErrorsCounted sheet c tx rx) sent = quiet_passive (cancels h) (λ i t r. refl) c tx rx (controller_at s.core.controllers c) (errors_at s.core.errors c)
    done_uncancelled (FrameArrived sheet c frame) sent = received_cases L F s ram c frame (λ (o : Outcome (State F)). cancelled_in h o.notifications ≡ false) refl (λ i. refl) (λ i e. refl)

    pub performed_uncancelled : (call : Call F) → Uncancelled (effect F call (performed L F call s ram)) (performed L F call s ram)
    performed_uncancelled call =
        performed_cases L F Uncancelled call s ram (λ refused sent. quiet_error (cancels h) (λ service error. refl) (service_number F call) (judgement L F call s ram).reason) (λ r. done_uncancelled call)

  -- the mailbox of an object whose last frame was sent is gone, or free
  sent_gone : (m : Mailbox) (bytes : List ℕ) (a : Account) (x : LastFrame) → Matches m bytes a → Owned L F h a x → x.sent ≡ true → Gone m
  sent_gone m bytes closed x p own sent pending = clash pending p
  sent_gone m bytes (held k b t) x p own sent pending = p.1 ∙ own.1 ∙ sent
  sent_gone m bytes broken x p own sent pending = absurd p

  -- what is not cancelled where it was sent, was not sent where it is cancelled
  unsent_cancelled : (sent : Bool) (ns : List Notification) → (sent ≡ true → cancelled_in h ns ≡ false) → UnsentCancelled h sent ns
  unsent_cancelled true ns stays = record { sent_stays = stays; cancelled_unsent = λ cancelled. clash cancelled (stays refl) }
  unsent_cancelled false ns stays = record { sent_stays = stays; cancelled_unsent = λ cancelled. refl }

  cancellations : Lawful L F → (calls : List (Call F)) (s : State F) (ram : List ℕ) (cfg : Configuration F) (a : Account) (x : LastFrame) → Follows L F h s ram cfg a → Owned L F h a x
      → OnlyUnsentCancelled L F h x (trace L F calls s ram)
  unfolding trace
  cancellations lawful [] s ram cfg a x f own = tt
  cancellations lawful (call ∷ calls) s ram cfg a x f own =
      let o = performed L F call s ram in
      let e = effect F call o in (
        unsent_cancelled (frame_after F h x e).sent o.notifications (performed_uncancelled s ram x (sent_gone (mailbox_at s.core.mailboxes h) (object_in L.object_size ram h) a x f.matches own) call),
        cancellations lawful calls o.state o.ram (in_force L F cfg e) (account_after L F h cfg a e o) (frame_after F h x e) (follows_on L F h lawful call s ram cfg a f) (owned_after L F h cfg x a e o own),
      )

-- every object, every list of calls, and every first memory
pub cancellation_rule : (L : Limits) (F : Format) → Lawful L F → CancellationRule L F
cancellation_rule L F lawful h calls ram =
    cancellations L F h lawful calls (initial_state L F) ram (no_configuration L F) closed no_frame (follows_first L F h lawful ram) tt
