-- What operators ask of the polls: whose objects they leave alone.
use Rattle.std.specs.Prelude.{ℕ, ◌≡◌, true, false, List}
use Rattle.rules.specs.Limits.{Limits}
use Rattle.rules.specs.Format.{Format}
use Rattle.rules.specs.Core.{mailbox_at, controller_of}
use Rattle.rules.specs.State.{State, valid}
use Rattle.rules.specs.Outcome.{Outcome}
use Rattle.rules.specs.Polls.{object_in}
use Rattle.rules.specs.Calls.{main_function_write, main_function_mode, main_function_bus_off}
use Rattle.history.specs.Reference.{entry, stops}
use Rattle.history.specs.Notices.{closed_in}

module _ (L : Limits) (F : Format) (s : State F) (sheet : ℕ) (ram : List ℕ) (h : ℕ) where
  -- the call leaves object h as it was: what the state remembers of it, its bytes, and no closing notice names it
  pub record ObjectKept (o : Outcome (State F)) : Type 0 where
    pub mailbox : mailbox_at o.state.core.mailboxes h ≡ mailbox_at s.core.mailboxes h
    pub bytes : object_in L.object_size o.ram h ≡ object_in L.object_size ram h
    pub not_closed : closed_in h o.notifications ≡ false

  -- a poll that stops controllers, or takes them off the bus, leaves the objects of every other one as they were: of those whose entry
  -- in the reference modes is not to be stopped, or not marked
  pub record OthersKept : Type 0 where
    pub mode_poll : stops (entry (controller_of s.core h)) ≡ false → ObjectKept (main_function_mode L F s sheet ram)
    pub bus_off_poll : (entry (controller_of s.core h)).mark ≡ false → ObjectKept (main_function_bus_off L F s sheet ram)

  -- a received frame survives every poll but the read poll; "Frames survive a stop."
  pub record FrameSurvives : Type 0 where
    pub write_poll : ObjectKept (main_function_write L F s sheet ram)
    pub mode_poll : ObjectKept (main_function_mode L F s sheet ram)
    pub bus_off_poll : ObjectKept (main_function_bus_off L F s sheet ram)

module _ (L : Limits) (F : Format) where
  -- from any state, with any sheet and memory
  abbrev pub OthersRule : Type 0
  OthersRule = (s : State F) (sheet : ℕ) (ram : List ℕ) (h : ℕ) → OthersKept L F s sheet ram h

  -- from a sound state in which object h is full
  abbrev pub ReceivedRule : Type 0
  ReceivedRule = (s : State F) (sheet : ℕ) (ram : List ℕ) (h : ℕ) → valid L F s ≡ true → (mailbox_at s.core.mailboxes h).rx_full ≡ true → FrameSurvives L F s sheet ram h
