-- The reference modes of one controller; they are 01's mode book. "The mode book is fed each call's arguments and return code."
use Rattle.std.specs.Prelude.{ℕ, Bool, true, false, not, cond, ◌&&◌, List, [], ◌∷◌, eqb, ltb}
use Rattle.rules.specs.Limits.{Limits}
use Rattle.rules.specs.Format.{Format}
use Rattle.rules.specs.Mode.{UNINIT, STARTED, STOPPED, NO_REQUEST}
use Rattle.rules.specs.Configuration.{controllers_byte}
use Rattle.rules.specs.Core.{Controller}
use Rattle.history.specs.Trace.{Step}
use Rattle.history.specs.Effect.{Configuring, configured, unconfigured, AtController, mode_asked, question_asked, bus_off, counted, sets_mark, Poll, of_writes, of_modes, of_buses_off, Effect, nothing, configuring, at_object, at_controller, polling, effect_of}

-- "It has a mode, a wish and a mark per controller"
pub record Reference : Type 0 where
  pub mode : ℕ
  pub wish : ℕ
  pub mark : Bool

-- "at first 0, none, clear"
abbrev pub at_first : Reference
at_first = record { mode = UNINIT; wish = NO_REQUEST; mark = false }

-- the entry that a controller of the driver state amounts to
abbrev pub entry : Controller → Reference
entry k = record { mode = k.mode; wish = k.requested_mode; mark = k.bus_off }

-- "Mode poll: each unmarked controller with a wish takes it as its mode, and the wish ends."
abbrev pub takes_wish : Reference → Bool
takes_wish r = not r.mark && not (eqb r.wish NO_REQUEST)

-- "a stop": where this holds a mode poll takes the controller out of STARTED
abbrev pub stops : Reference → Bool
stops r = takes_wish r && (eqb r.mode STARTED && not (eqb r.wish STARTED))

abbrev pub marked_if : Bool → Reference → Reference
marked_if marks r = cond marks (record { mode = r.mode; wish = r.wish; mark = true }) r

module _ (L : Limits) (F : Format) (c : ℕ) where
  -- "Init: mode 2 for each controller below the count in its bytes. DeInit: all as at first."
  abbrev pub after_configuring : Configuring → Reference → Reference
  after_configuring (configured bytes) r = cond (ltb c (controllers_byte bytes)) (record { mode = STOPPED; wish = r.wish; mark = r.mark }) r
  after_configuring unconfigured r = at_first

  -- "SetControllerMode: the wish becomes the mode asked for. Bus-off event: the mark is set."; 02, Q-5: the count event sets "the mark in
  -- demand 3's mode book" too
  abbrev pub after_own : AtController → Reference → Reference
  after_own (mode_asked mode) r = record { mode = r.mode; wish = mode; mark = r.mark }
  after_own (question_asked q) r = r
  after_own bus_off r = marked_if (sets_mark bus_off) r
  after_own (counted tx rx) r = marked_if (sets_mark (counted tx rx)) r

  -- "Mode poll: each unmarked controller with a wish takes it as its mode, and the wish ends. Bus-off poll: each marked controller gets
  -- mode 2, no wish, no mark."
  abbrev pub after_poll : Poll → Reference → Reference
  after_poll of_writes r = r
  after_poll of_modes r = cond (takes_wish r) (record { mode = r.wish; wish = NO_REQUEST; mark = r.mark }) r
  after_poll of_buses_off r = cond r.mark (record { mode = STOPPED; wish = NO_REQUEST; mark = false }) r

  -- "Only calls that return 0 change it."
  abbrev pub reference_after : Reference → Effect F → Reference
  reference_after r nothing = r
  reference_after r (configuring x) = after_configuring x r
  reference_after r (at_object h x) = r
  reference_after r (at_controller k x) = cond (eqb k c) (after_own x r) r
  reference_after r (polling p) = after_poll p r

  -- the entry after a trace
  unfoldable pub reference_by : Reference → List (Step F) → Reference
  reference_by r [] = r
  reference_by r (x ∷ xs) = reference_by (reference_after r (effect_of F x)) xs
