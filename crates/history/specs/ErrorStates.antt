-- 02, Q-5, what operators ask: a controller that went off the bus answers bus-off until it is STARTED again, and entering passive is told
-- exactly once for each time.
use Rattle.std.specs.Prelude.{ℕ, min, ◌≡◌, Bool, true, false, cond, ◌&&◌, ◌||◌, List, [], ◌∷◌, eqb, ltb}
use Rattle.rules.specs.Limits.{Limits}
use Rattle.rules.specs.Format.{Format}
use Rattle.rules.specs.Mode.{STARTED}
use Rattle.rules.specs.Notification.{Notification, tx_confirmation, rx_indication, mode_indication, bus_off_indication, development_error, data_lost, tx_cancellation, error_passive_indication}
use Rattle.rules.specs.State.{State}
use Rattle.rules.specs.Outcome.{Outcome, Question, of_mode, of_error_state, of_rx_errors, of_tx_errors, told}
use Rattle.history.specs.Call.{Call}
use Rattle.history.specs.Trace.{Step}
use Rattle.history.specs.Effect.{AtController, mode_asked, question_asked, bus_off, counted, sets_mark, Poll, of_writes, of_modes, of_buses_off, Effect, nothing, configuring, at_object, at_controller, polling, effect_of}
use Rattle.history.specs.Reference.{Reference, at_first, takes_wish, reference_after}
use Rattle.history.specs.Notices.{one_of}
use Rattle.history.specs.Claim.{asks, history}

-- what the calls have made of a controller's errors
pub record ErrorBook : Type 0 where
  -- it was marked off the bus, and not STARTED since
  pub off : Bool
  pub tx : ℕ
  pub rx : ℕ

-- "zero after Init"
abbrev pub no_trouble : ErrorBook
no_trouble = record { off = false; tx = 0; rx = 0 }

-- "0 active, 1 passive, 2 bus-off", "error passive where either count is above 127"
abbrev pub state_by : ErrorBook → ℕ
state_by b = cond b.off 2 (cond (ltb 127 b.tx || ltb 127 b.rx) 1 0)

-- "the state .. and the receive and transmit counts capped at 255"; GetControllerMode's answer is the mode book's
abbrev pub answer_by : Question → Reference → ErrorBook → ℕ
answer_by of_mode r b = r.mode
answer_by of_error_state r b = state_by b
answer_by of_rx_errors r b = min b.rx 255
answer_by of_tx_errors r b = min b.tx 255

-- where a mode poll finds this entry the controller is STARTED again
abbrev pub starts : Reference → Bool
starts r = takes_wish r && eqb r.wish STARTED

-- "Entering passive from active"
abbrev pub enters : ErrorBook → ErrorBook → Bool
enters before after = eqb (state_by before) 0 && eqb (state_by after) 1

-- a record of kind 8 that names controller c
abbrev pub tells_passive : ℕ → Notification → Bool
tells_passive c (error_passive_indication k tx rx) = eqb k c
tells_passive c (tx_confirmation h handle) = false
tells_passive c (tx_cancellation h handle) = false
tells_passive c (rx_indication h identifier len) = false
tells_passive c (mode_indication k m) = false
tells_passive c (bus_off_indication k) = false
tells_passive c (development_error service error) = false
tells_passive c (data_lost h) = false

module _ (L : Limits) (F : Format) (c : ℕ) where
  -- an accepted count event sets both counts, and marks the controller as a bus-off event does
  abbrev pub after_own : AtController → ErrorBook → ErrorBook
  after_own bus_off b = record { off = b.off || sets_mark bus_off; tx = b.tx; rx = b.rx }
  after_own (counted tx rx) b = record { off = b.off || sets_mark (counted tx rx); tx = tx; rx = rx }
  after_own (mode_asked m) b = b
  after_own (question_asked q) b = b

  -- "until STARTED, which clears it and sets both counts to zero"
  abbrev pub after_poll : Reference → Poll → ErrorBook → ErrorBook
  after_poll r of_modes b = cond (starts r) no_trouble b
  after_poll r of_writes b = b
  after_poll r of_buses_off b = b

  -- r is the mode book's entry before the call
  abbrev pub errors_after : Reference → ErrorBook → Effect F → ErrorBook
  errors_after r b nothing = b
  errors_after r b (configuring x) = no_trouble
  errors_after r b (at_object h x) = b
  errors_after r b (at_controller k x) = cond (eqb k c) (after_own x b) b
  errors_after r b (polling p) = after_poll r p b

  -- the book after a trace
  unfoldable pub errors_by : Reference → ErrorBook → List (Step F) → ErrorBook
  errors_by r b [] = b
  errors_by r b (x ∷ xs) = errors_by (reference_after L F c r (effect_of F x)) (errors_after r b (effect_of F x)) xs

  -- one call, with the controller's entry after it (r), and its errors before and after
  pub record ErrorsTold (r : Reference) (before after : ErrorBook) (e : Effect F) (o : Outcome (State F)) : Type 0 where
    pub answered : (q : Question) → asks L F q c e ≡ true → o.answer ≡ told q (answer_by q r after)
    -- "writes a record of a new kind 8: controller, transmit count, receive count, each at most 255", and nothing else
    pub entering : enters before after ≡ true → o.notifications ≡ error_passive_indication c (min after.tx 255) (min after.rx 255) ∷ []
    pub not_entering : enters before after ≡ false → one_of (tells_passive c) o.notifications ≡ false

  -- each call of a trace
  abbrev pub AllErrorsTold : Reference → ErrorBook → List (Step F) → Type 0
  AllErrorsTold r b [] = Unit {0}
  AllErrorsTold r b (x ∷ xs) =
      ErrorsTold (reference_after L F c r (effect_of F x)) b (errors_after r b (effect_of F x)) (effect_of F x) x.outcome
      × AllErrorsTold (reference_after L F c r (effect_of F x)) (errors_after r b (effect_of F x)) xs

module _ (L : Limits) (F : Format) where
  -- every controller, in any list of calls from before initialisation, with any first memory
  abbrev pub ErrorRule : Type 0
  ErrorRule = (c : ℕ) (calls : List (Call F)) (ram : List ℕ) → AllErrorsTold L F c at_first no_trouble (history L F calls ram)
