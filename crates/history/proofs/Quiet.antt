-- Which calls write no closing notice of an object: all but a write poll, a stop of its controller and a bus-off poll that finds its
-- controller marked.
use Prim.Native.Nat.{ℕ}
use mathlib.Core.Path.{◌≡◌, refl, sym, ◌∙◌, subst}
use mathlib.Core.Bool.{true, false}
use mathlib.Core.List.{List}
use lib.Dec.{eqb}
use borrow.Author.Tests.{eqb-true}
use Rattle.rules.specs.Limits.{Limits}
use Rattle.rules.specs.Format.{Format}
use Rattle.rules.specs.Core.{Controller, Core, controller_at, errors_at, owner_at, mailbox_at}
use Rattle.rules.specs.State.{State}
use Rattle.rules.specs.Outcome.{Outcome}
use Rattle.rules.specs.Polls.{Boxes, Turn, turn_all, boxes_of, indication, mode_change, going_off}
use Rattle.history.specs.Call.{Call, Init, DeInit, SetControllerMode, AskController, Write, MainFunctionWrite, MainFunctionRead, MainFunctionMode, MainFunctionBusOff, TxComplete, BusOffDetected, ErrorsCounted, FrameArrived, performed}
use Rattle.history.specs.Reference.{entry}
use Rattle.history.specs.Effect.{Effect, accepted_effect, effect}
use Rattle.history.specs.Demand1.{service_number}
use Rattle.history.specs.PollRule.{closes_sent}
use Rattle.history.specs.Notices.{one_of, closes, closed_in}
use Rattle.laws.proofs.Tests.{left, both, clash}
use Rattle.history.proofs.Judged.{judgement, received_cases, performed_cases}
use Rattle.history.proofs.Notices.{quiet_error, quiet_passive, still_none}
use Rattle.history.proofs.Sweeps.{visits_keep}
use Rattle.history.proofs.Untouched.{Untouched, at_first, turns_untouched}

-- a poll over the controllers closes no object of a controller that stays
pub staying_untouched : (size : ℕ) (t : Turn) (core : Core) (ram : List ℕ) (h : ℕ) → ((c : ℕ) (k : Controller) → closes h (t.note c k) ≡ false)
    → (c : ℕ) → (owner_at core.owners h).controller ≡ c → (t.due (controller_at core.controllers c) ≡ true → t.leaves (controller_at core.controllers c) ≡ true → ⊥)
    → Untouched h (mailbox_at core.mailboxes h) (turn_all size t core ram).boxes
staying_untouched size t core ram h quiet c own stays =
    turns_untouched h (mailbox_at core.mailboxes h) size t core ram quiet
    (λ i due leaves e. let same : i ≡ c = sym (eqb-true _ i (left (eqb (owner_at core.owners h).controller i) (mailbox_at core.mailboxes h).tx_pending e)) ∙ own in
    stays (subst (λ (j : ℕ). t.due (controller_at core.controllers j) ≡ true) same due) (subst (λ (j : ℕ). t.leaves (controller_at core.controllers j) ≡ true) same leaves))
    (at_first core h)

module _ (L : Limits) (F : Format) (h : ℕ) (s : State F) (ram : List ℕ) (c : ℕ) (own : (owner_at s.core.owners h).controller ≡ c) where
  -- the call does not close sent objects of controller c, or none of them is this one
  abbrev Quiet : Effect F → Outcome (State F) → Type 0
  Quiet e o = closes_sent L F (entry (controller_at s.core.controllers c)) e ≡ false → closed_in h o.notifications ≡ false

  done_quiet : (call : Call F) → Quiet (accepted_effect F call (judgement L F call s ram).done.answer) (judgement L F call s ram).done
  unfolding one_of
  done_quiet (Init sheet bytes) n = refl
  done_quiet (DeInit sheet) n = refl
  done_quiet (SetControllerMode sheet k asked) n = refl
  done_quiet (AskController q sheet k) n = refl
  done_quiet (Write sheet i handle fits frame) n = refl
  done_quiet (MainFunctionWrite sheet) n = clash refl n
  done_quiet (MainFunctionRead sheet) n =
      visits_keep (λ (b : Boxes). closed_in h b.notifications ≡ false) (indication L.object_size L.length_size ram) (λ i b p t. still_none (closes h) b.notifications _ p refl) s.core.object_count (boxes_of s.core) refl
  done_quiet (MainFunctionMode sheet) n = (staying_untouched L.object_size mode_change s.core ram h (λ k x. refl) c own (λ due leaves. clash (both due leaves) n)).unclosed
  done_quiet (MainFunctionBusOff sheet) n = (staying_untouched L.object_size going_off s.core ram h (λ k x. refl) c own (λ due leaves. clash due n)).unclosed
  done_quiet (TxComplete i) n = refl
  done_quiet (BusOffDetected k) n = refl
  done_quiet (ErrorsCounted sheet k tx rx) n = quiet_passive (closes h) (λ i t r. refl) k tx rx (controller_at s.core.controllers k) (errors_at s.core.errors k)
  done_quiet (FrameArrived sheet k frame) n = received_cases L F s ram k frame (λ (o : Outcome (State F)). closed_in h o.notifications ≡ false) refl (λ i. refl) (λ i e. refl)

  pub performed_quiet : (call : Call F) → Quiet (effect F call (performed L F call s ram)) (performed L F call s ram)
  performed_quiet call = performed_cases L F Quiet call s ram (λ refused n. quiet_error (closes h) (λ service error. refl) (service_number F call) (judgement L F call s ram).reason) (λ r. done_quiet call)
