-- Demand 3: a single claim about any list of calls.
use Rattle.std.specs.Prelude.{ℕ, ◌≤◌, ◌≡◌, Bool, true, false, ◌&&◌, List, [], ◌∷◌, length, eqb}
use Rattle.rules.specs.Limits.{Limits, notification_limit}
use Rattle.rules.specs.Format.{Format}
use Rattle.rules.specs.Mode.{permitted}
use Rattle.rules.specs.Configuration.{no_configuration}
use Rattle.rules.specs.Core.{controller_at}
use Rattle.rules.specs.State.{State, initial_state}
use Rattle.rules.specs.Outcome.{Outcome, Question, of_mode, told}
use Rattle.rules.specs.Services.{question_service}
use Rattle.history.specs.Call.{Call}
use Rattle.history.specs.Trace.{Step, trace, left_by}
use Rattle.history.specs.Effect.{AtController, mode_asked, question_asked, bus_off, counted, Poll, of_writes, of_modes, of_buses_off, Effect, nothing, configuring, at_object, at_controller, polling, effect_of}
use Rattle.history.specs.Account.{closed, account, intact}
use Rattle.history.specs.Reference.{Reference, at_first, takes_wish, entry, reference_after, reference_by}

module _ (L : Limits) (F : Format) where
  -- an accepted question of controller c, known by the service that asks it
  abbrev pub is_question : Question → AtController → Bool
  is_question q (question_asked p) = eqb (question_service p) (question_service q)
  is_question q (mode_asked m) = false
  is_question q bus_off = false
  is_question q (counted tx rx) = false

  abbrev pub asks : Question → ℕ → Effect F → Bool
  asks q c (at_controller k x) = eqb k c && is_question q x
  asks q c nothing = false
  asks q c (configuring x) = false
  asks q c (at_object h x) = false
  asks q c (polling p) = false

  -- an accepted mode poll
  abbrev pub polls_modes : Poll → Bool
  polls_modes of_modes = true
  polls_modes of_writes = false
  polls_modes of_buses_off = false

  abbrev pub is_mode_poll : Effect F → Bool
  is_mode_poll (polling p) = polls_modes p
  is_mode_poll nothing = false
  is_mode_poll (configuring x) = false
  is_mode_poll (at_object h x) = false
  is_mode_poll (at_controller c x) = false

  -- one call against the reference modes of controller c, before it (r) and after it (next)
  pub record ModeKept (c : ℕ) (r next : Reference) (e : Effect F) (o : Outcome (State F)) : Type 0 where
    -- "The modes in the driver state .. equal the book's."
    pub in_state : (controller_at o.state.core.controllers c).mode ≡ next.mode
    -- ".. and GetControllerMode's answer where it returns 0"
    pub answered : asks of_mode c e ≡ true → o.answer ≡ told of_mode next.mode
    -- "Each wish that a mode poll takes is a request permitted from the mode that it replaces."
    pub wish_permitted : (is_mode_poll e && takes_wish r) ≡ true → permitted r.mode r.wish ≡ true

  -- "After each call, every controller's mode is the one in 01's mode book."
  abbrev pub ModesKept : ℕ → Reference → List (Step F) → Type 0
  ModesKept c r [] = Unit {0}
  ModesKept c r (x ∷ xs) =
      ModeKept c r (reference_after L F c r (effect_of F x)) (effect_of F x) x.outcome × ModesKept c (reference_after L F c r (effect_of F x)) xs

  -- "No call writes more than 36 records."
  abbrev pub NotificationsBounded : List (Step F) → Type 0
  NotificationsBounded [] = Unit {0}
  NotificationsBounded (x ∷ xs) = (length x.outcome.notifications ≤ notification_limit L) × NotificationsBounded xs

  -- the trace of a list of calls from before initialisation
  abbrev pub history : List (Call F) → List ℕ → List (Step F)
  history calls ram = trace L F calls (initial_state L F) ram

  -- "Take any list of services, polls and bench events, refused ones included, from the sound state before initialisation and any
  -- mailbox memory".
  pub record Demand3 (calls : List (Call F)) (ram : List ℕ) : Type 0 where
    -- "For each object, the writes accepted under demand 2 and the closing notices alternate, write first, and each notice carries its
    -- own write's handle. From a write until its notice the object's 72 bytes are exactly those that the write laid down. Between a
    -- write and its confirmation lies exactly one accepted sent event for that object."
    pub objects : (h : ℕ) → intact (account L F h (no_configuration L F) closed (history calls ram)) ≡ true
    pub modes : (c : ℕ) → ModesKept c at_first (history calls ram)
    pub bounded : NotificationsBounded (history calls ram)

  abbrev pub HistoryRule : Type 0
  HistoryRule = (calls : List (Call F)) (ram : List ℕ) → Demand3 calls ram

  -- the whole entry of the book, and not its mode alone: after any list of calls a controller's mode, waiting request and mark are the
  -- mode, the wish and the mark of its entry
  abbrev pub ReferenceRule : Type 0
  ReferenceRule = (c : ℕ) (calls : List (Call F)) (ram : List ℕ) → entry (controller_at (left_by L F calls (initial_state L F) ram).state.core.controllers c) ≡ reference_by L F c at_first (history calls ram)
