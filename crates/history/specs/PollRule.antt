-- Demand 2's poll rule: "after a sent event that returns 0 the first write poll that returns 0 reports it, if no stop or bus-off poll
-- came first". By 02, Q-4, such a poll then reports it.
use Rattle.std.specs.Prelude.{ℕ, ◌≡◌, Bool, true, false, List, [], ◌∷◌, ◌++◌, ◌⊎◌}
use Rattle.rules.specs.Limits.{Limits}
use Rattle.rules.specs.Format.{Format}
use Rattle.rules.specs.Notification.{Notification, tx_confirmation}
use Rattle.rules.specs.Core.{owner_at}
use Rattle.rules.specs.Configuration.{no_configuration}
use Rattle.rules.specs.State.{State, initial_state}
use Rattle.rules.specs.Outcome.{Outcome}
use Rattle.history.specs.Call.{Call, MainFunctionWrite, TxComplete, performed}
use Rattle.history.specs.Trace.{Step, Left, trace, left_by, is_accepted}
use Rattle.history.specs.Effect.{Poll, of_writes, of_modes, of_buses_off, Effect, nothing, configuring, at_object, at_controller, polling, effect, effect_of}
use Rattle.history.specs.Account.{force_by}
use Rattle.history.specs.Reference.{Reference, at_first, stops, reference_after, reference_by}
use Rattle.history.specs.Claim.{history}
use Rattle.history.specs.LastFrame.{no_frame, last_frame}

-- the notification stands among these
abbrev pub Reported : Notification → List Notification → Type 0
Reported n [] = ⊥
Reported n (m ∷ ms) = (n ≡ m) ⊎ Reported n ms

module _ (L : Limits) (F : Format) where
  -- what closes a sent object of a controller: a write poll, and a "stop or bus-off poll" of that controller
  abbrev pub poll_closes : Reference → Poll → Bool
  poll_closes r of_writes = true
  poll_closes r of_modes = stops r
  poll_closes r of_buses_off = r.mark

  abbrev pub closes_sent : Reference → Effect F → Bool
  closes_sent r (polling p) = poll_closes r p
  closes_sent r nothing = false
  closes_sent r (configuring x) = false
  closes_sent r (at_object h x) = false
  closes_sent r (at_controller c x) = false

  -- none of these came, or none that returned 0: r is the entry of controller c before the first call
  abbrev pub NoneCame : ℕ → Reference → List (Step F) → Type 0
  NoneCame c r [] = Unit {0}
  NoneCame c r (x ∷ xs) = (closes_sent r (effect_of F x) ≡ false) × NoneCame c (reference_after L F c r (effect_of F x)) xs

  module _ (h : ℕ) (before between : List (Call F)) (ram : List ℕ) where
    -- what the calls before the sent event leave, and those before the poll
    abbrev pub at_sent : Left F
    at_sent = left_by L F before (initial_state L F) ram

    abbrev pub at_poll : Left F
    at_poll = left_by L F (TxComplete h ∷ between) at_sent.state at_sent.ram

    -- the object's controller, in the configuration that the calls have put in force, and its entry in the reference modes
    abbrev pub own_controller : ℕ
    own_controller = (owner_at (force_by L F (no_configuration L F) (history L F before ram)).owners h).controller

    abbrev pub own_entry : Reference
    own_entry = reference_by L F own_controller at_first (history L F before ram)

    -- the entry as the poll finds it
    abbrev pub entry_at_poll : Reference
    entry_at_poll = reference_by L F own_controller own_entry (trace L F (TxComplete h ∷ between) at_sent.state at_sent.ram)

    -- the frame was sent, and no poll has closed the object since
    pub record StillSent : Type 0 where
      -- "a sent event that returns 0"
      pub sent : is_accepted (performed L F (TxComplete h) at_sent.state at_sent.ram) ≡ true
      -- no write poll yet, and "no stop or bus-off poll came first"
      pub none_came : NoneCame own_controller own_entry (trace L F (TxComplete h ∷ between) at_sent.state at_sent.ram)

    -- the poll that comes then
    abbrev pub polled : Call F → Outcome (State F)
    polled poll = performed L F poll at_poll.state at_poll.ram

    -- it "reports it": it confirms the object with its own write's handle
    abbrev pub Confirms : Call F → Type 0
    Confirms poll = Reported (tx_confirmation h (last_frame F h no_frame (history L F (before ++ (TxComplete h ∷ between)) ram)).handle) (polled poll).notifications

  -- the rule, for any object, any calls before the sent event and any between it and the "write poll that returns 0", from any first memory
  abbrev pub PollRule : Type 0
  PollRule = (h : ℕ) (before between : List (Call F)) (ram sheet : List ℕ) → StillSent h before between ram → is_accepted (polled h before between ram (MainFunctionWrite sheet)) ≡ true
      → Confirms h before between ram (MainFunctionWrite sheet)

  -- 02, Q-4: the first poll that returns 0 and closes the object reports it, be it a write poll or the "stop or bus-off poll" that "came
  -- first"
  abbrev pub FirstPollRule : Type 0
  FirstPollRule = (h : ℕ) (before between : List (Call F)) (ram : List ℕ) (poll : Call F) → StillSent h before between ram
      → closes_sent (entry_at_poll h before between ram) (effect F poll (polled h before between ram poll)) ≡ true → Confirms h before between ram poll
