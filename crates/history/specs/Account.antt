-- The account of one object: what its accepted writes, sent events and closing notices must look like.
-- It is fed what a call did, its records and its memory, and never sees the driver's flags.
use Rattle.std.specs.Prelude.{ℕ, Bool, true, false, cond, ◌&&◌, List, [], ◌∷◌, eqb}
use Rattle.rules.specs.Limits.{Limits}
use Rattle.rules.specs.Format.{Format}
use Rattle.rules.specs.Bytes.{same_bytes}
use Rattle.rules.specs.Notification.{Notification, tx_confirmation, rx_indication, mode_indication, bus_off_indication, development_error, data_lost, tx_cancellation, error_passive_indication}
use Rattle.rules.specs.Configuration.{Configuration, settings_at, configuration_of, no_configuration}
use Rattle.rules.specs.State.{State}
use Rattle.rules.specs.Outcome.{Outcome}
use Rattle.rules.specs.Polls.{object_in}
use Rattle.history.specs.Trace.{Step}
use Rattle.history.specs.Effect.{Configuring, configured, unconfigured, AtObject, written, completed, Effect, nothing, configuring, at_object, at_controller, polling, effect_of}

pub data Account : Type 0 where
  -- no write is open
  closed : Account
  -- a write is open: its handle, the bytes that it laid down, and whether a sent event was accepted since
  held : ℕ → List ℕ → Bool → Account
  -- something happened that must not
  broken : Account

-- "the writes accepted under demand 2 and the closing notices alternate, write first"
abbrev pub after_write : ℕ → List ℕ → Account → Account
after_write handle bytes closed = held handle bytes false
after_write handle bytes (held k b sent) = broken
after_write handle bytes broken = broken

-- "Between a write and its confirmation lies exactly one accepted sent event": a second one, or one with no write, is wrong
abbrev pub after_sent : Account → Account
after_sent closed = broken
after_sent (held k b sent) = cond sent broken (held k b true)
after_sent broken = broken

-- a confirmation closes a write that was sent, "each notice carries its own write's handle"
abbrev pub after_confirmation : ℕ → Account → Account
after_confirmation handle closed = broken
after_confirmation handle (held k b sent) = cond (sent && eqb handle k) closed broken
after_confirmation handle broken = broken

-- a cancellation closes a write; that its frame was not sent is a claim of its own (Cancellation)
abbrev pub after_cancellation : ℕ → Account → Account
after_cancellation handle closed = broken
after_cancellation handle (held k b sent) = cond (eqb handle k) closed broken
after_cancellation handle broken = broken

-- "A closing notice of an object is a record of kind 1 (a confirmation) or 7 that names it"
abbrev pub after_notification : ℕ → Account → Notification → Account
after_notification h a (tx_confirmation i handle) = cond (eqb i h) (after_confirmation handle a) a
after_notification h a (tx_cancellation i handle) = cond (eqb i h) (after_cancellation handle a) a
after_notification h a (rx_indication i identifier len) = a
after_notification h a (mode_indication c m) = a
after_notification h a (bus_off_indication c) = a
after_notification h a (development_error service error) = a
after_notification h a (data_lost i) = a
after_notification h a (error_passive_indication c tx rx) = a

unfoldable pub after_notifications : ℕ → Account → List Notification → Account
after_notifications h a [] = a
after_notifications h a (n ∷ ns) = after_notifications h (after_notification h a n) ns

module _ (L : Limits) (F : Format) where
  -- the configuration that the calls have put in force
  abbrev pub configuration_after : Configuring → Configuration F
  configuration_after (configured bytes) = configuration_of L F bytes
  configuration_after unconfigured = no_configuration L F

  abbrev pub in_force : Configuration F → Effect F → Configuration F
  in_force cfg (configuring x) = configuration_after x
  in_force cfg nothing = cfg
  in_force cfg (at_object h x) = cfg
  in_force cfg (at_controller c x) = cfg
  in_force cfg (polling p) = cfg

  unfoldable pub force_by : Configuration F → List (Step F) → Configuration F
  force_by cfg [] = cfg
  force_by cfg (x ∷ xs) = force_by (in_force cfg (effect_of F x)) xs

  -- accepted writes to object h, and accepted sent events for it
  abbrev pub after_own : ℕ → Configuration F → Account → AtObject F → Account
  after_own h cfg a (written handle frame) = after_write handle (F.object_bytes (settings_at F cfg.settings h) handle frame) a
  after_own h cfg a completed = after_sent a

  abbrev pub after_effect : ℕ → Configuration F → Account → Effect F → Account
  after_effect h cfg a (at_object i x) = cond (eqb i h) (after_own h cfg a x) a
  after_effect h cfg a nothing = a
  after_effect h cfg a (configuring x) = a
  after_effect h cfg a (at_controller c x) = a
  after_effect h cfg a (polling p) = a

  -- "The 72 bytes are compared at the end of every call from the write to the one that closes it"
  abbrev pub compared : ℕ → List ℕ → Account → Account
  compared h ram closed = closed
  compared h ram (held k b sent) = cond (same_bytes (object_in L.object_size ram h) b) (held k b sent) broken
  compared h ram broken = broken

  -- one call: the write or sent event that it is, then its memory, then its notices
  abbrev pub account_after : ℕ → Configuration F → Account → Effect F → Outcome (State F) → Account
  account_after h cfg a e o = after_notifications h (compared h o.ram (after_effect h cfg a e)) o.notifications

  unfoldable pub account : ℕ → Configuration F → Account → List (Step F) → Account
  account h cfg a [] = a
  account h cfg a (x ∷ xs) = account h (in_force cfg (effect_of F x)) (account_after h cfg a (effect_of F x) x.outcome) xs

-- no rule was broken; a broken account stays broken
abbrev pub intact : Account → Bool
intact closed = true
intact (held k b sent) = true
intact broken = false
