-- Calls that are handed one sheet are a list of calls, and on a state that is not valid they change nothing.
use Prim.Native.Nat.{ℕ, zero, suc}
use mathlib.Core.Path.{◌≡◌, refl, ap, sym, ◌∙◌}
use mathlib.Core.Bool.{false}
use mathlib.Core.List.{List, [], ◌∷◌, ◌++◌}
use mathlib.Core.Option.{Option, none, some}
use lib.Dec.{eqb}
use Rattle.rules.specs.Repeat.{rising, list_below}
use Rattle.rules.specs.Limits.{Limits}
use Rattle.rules.specs.Format.{Format}
use Rattle.rules.specs.Notification.{Notification, all_words, sheet_after}
use Rattle.rules.specs.Reason.{first_reason, INVALID_STATE}
use Rattle.rules.specs.State.{State, valid}
use Rattle.rules.specs.Outcome.{Outcome, state_gate, sheet_gate, full_gate}
use Rattle.laws.proofs.Tests.{clash}
use Rattle.laws.proofs.Splices.{splice_nil}
use Rattle.history.specs.Call.{Call, Init, DeInit, SetControllerMode, AskController, Write, MainFunctionWrite, MainFunctionRead, MainFunctionMode, MainFunctionBusOff, TxComplete, BusOffDetected, ErrorsCounted, FrameArrived, performed}
use Rattle.history.specs.Trace.{Left, left_by}
use Rattle.history.specs.Effect.{Effect}
use Rattle.history.specs.Demand1.{error_record, service_number}
use Rattle.history.specs.Replay.{Whole, whole, whole_of, made, replayed, replayed_calls, ReplayRule}
use Rattle.history.proofs.Judged.{judgement, performed_cases}

-- "Reasons from 32 up write nothing."
untold : (service : Option ℕ) → error_record service INVALID_STATE ≡ []
untold none = refl
untold (some n) = refl

module _ (L : Limits) (F : Format) where
  -- a list that goes on by one more call
  abbrev left_of : Outcome (State F) → Left F
  left_of o = record { state = o.state; ram = o.ram }

  left_more : (cs : List (Call F)) (c : Call F) (s : State F) (ram : List ℕ)
      → left_by L F (cs ++ (c ∷ [])) s ram ≡ left_of (performed L F c (left_by L F cs s ram).state (left_by L F cs s ram).ram)
  unfolding left_by
  left_more [] c s ram = refl
  left_more (x ∷ cs) c s ram = left_more cs c (performed L F x s ram).state (performed L F x s ram).ram

  module _ (call : ℕ → List ℕ → Call F) (w : Whole F) where
    -- call i, with the sheet that it was handed
    abbrev nth : ℕ → Call F
    nth i = call i (rising i (made L F call) w).sheet

    listed : (n : ℕ) → left_by L F (list_below n nth) w.state w.ram ≡ record { state = (rising n (made L F call) w).state; ram = (rising n (made L F call) w).ram }
    unfolding rising list_below left_by
    listed zero = refl
    listed (suc n) = left_more (list_below n nth) (nth n) w.state w.ram ∙ ap (λ (l : Left F). left_of (performed L F (nth n) l.state l.ram)) (listed n)

  pub replay_rule : ReplayRule L F
  unfolding replayed replayed_calls
  replay_rule call n w = listed call w n

  -- on a state that is not valid every call is refused, and leaves everything as it was
  module _ (s : State F) (ram : List ℕ) (unsound : valid L F s ≡ false) where
    refused : (call : Call F) → (judgement L F call s ram).reason ≡ INVALID_STATE
    unfolding state_gate sheet_gate full_gate first_reason
    refused (Init sheet bytes) = rw unsound
    refused (DeInit sheet) = rw unsound
    refused (SetControllerMode sheet c asked) = rw unsound
    refused (AskController q sheet c) = rw unsound
    refused (Write sheet h handle fits frame) = rw unsound
    refused (MainFunctionWrite sheet) = rw unsound
    refused (MainFunctionRead sheet) = rw unsound
    refused (MainFunctionMode sheet) = rw unsound
    refused (MainFunctionBusOff sheet) = rw unsound
    refused (TxComplete h) = rw unsound
    refused (BusOffDetected c) = rw unsound
    refused (ErrorsCounted sheet c tx rx) = rw unsound
    refused (FrameArrived sheet c frame) = rw unsound

    nothing_left : (call : Call F) (sheet : List ℕ) → whole_of (performed L F call s ram) sheet ≡ whole s ram sheet
    unfolding all_words
    nothing_left call sheet =
        performed_cases L F (λ (e : Effect F) (o : Outcome (State F)). whole_of o sheet ≡ whole s ram sheet) call s ram
        (λ r.
        let silent = ap (error_record (service_number F call)) (refused call) ∙ untold (service_number F call) in
        ap (whole s ram) (ap (λ (ns : List Notification). sheet_after ns sheet) silent ∙ splice_nil 0 sheet))
        (λ accepted. clash (ap (λ (r : ℕ). eqb r 0) (sym (refused call) ∙ accepted)) refl)

    pub unsound_stays : (call : ℕ → List ℕ → Call F) (n : ℕ) (sheet : List ℕ) → whole s ram sheet ≡ replayed L F call n (whole s ram sheet)
    unfolding rising replayed
    unsound_stays call zero sheet = refl
    unsound_stays call (suc n) sheet = sym (nothing_left (call n sheet) sheet) ∙ ap (made L F call n) (unsound_stays call n sheet)
