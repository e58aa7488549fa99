-- What an object's account holds is its last frame: its own write's handle, and whether it was sent.
use Prim.Native.Nat.{ℕ}
use mathlib.Core.Path.{◌≡◌, refl}
use mathlib.Core.Bool.{Bool, true, false, cond, ◌&&◌}
use mathlib.Core.List.{List, [], ◌∷◌}
use lib.Dec.{eqb}
use Rattle.rules.specs.Limits.{Limits}
use Rattle.rules.specs.Format.{Format}
use Rattle.rules.specs.Bytes.{same_bytes}
use Rattle.rules.specs.Notification.{Notification, tx_confirmation, rx_indication, mode_indication, bus_off_indication, development_error, data_lost, tx_cancellation, error_passive_indication}
use Rattle.rules.specs.Configuration.{Configuration, settings_at}
use Rattle.rules.specs.State.{State}
use Rattle.rules.specs.Outcome.{Outcome}
use Rattle.rules.specs.Polls.{object_in}
use Rattle.history.specs.Trace.{Step}
use Rattle.history.specs.Effect.{AtObject, written, completed, Effect, nothing, configuring, at_object, at_controller, polling, effect_of}
use Rattle.history.specs.Account.{Account, closed, held, broken, after_write, after_sent, after_confirmation, after_cancellation, after_notification, after_notifications, in_force, after_own, after_effect, compared, account_after, account}
use Rattle.history.specs.LastFrame.{LastFrame, own_frame, frame_after, last_frame}
use Rattle.laws.proofs.Tests.{cond_both}

module _ (L : Limits) (F : Format) (h : ℕ) where
  -- a write that is held is of this frame
  abbrev pub Owned : Account → LastFrame → Type 0
  Owned closed x = Unit {0}
  Owned (held k b sent) x = (k ≡ x.handle) × (sent ≡ x.sent)
  Owned broken x = Unit {0}

  owned_closing : (x : LastFrame) (t : Bool) → Owned (cond t closed broken) x
  owned_closing x true = tt
  owned_closing x false = tt

  owned_confirmation : (x : LastFrame) (handle : ℕ) (a : Account) → Owned (after_confirmation handle a) x
  owned_confirmation x handle closed = tt
  owned_confirmation x handle (held k b sent) = owned_closing x (sent && eqb handle k)
  owned_confirmation x handle broken = tt

  owned_cancellation : (x : LastFrame) (handle : ℕ) (a : Account) → Owned (after_cancellation handle a) x
  owned_cancellation x handle closed = tt
  owned_cancellation x handle (held k b sent) = owned_closing x (eqb handle k)
  owned_cancellation x handle broken = tt

  owned_notification : (x : LastFrame) (a : Account) (n : Notification) → Owned a x → Owned (after_notification h a n) x
  owned_notification x a (tx_confirmation i handle) p =
      cond_both (λ (y : Account). Owned y x) (eqb i h) (after_confirmation handle a) a (λ t. owned_confirmation x handle a) (λ t. p)
  owned_notification x a (tx_cancellation i handle) p =
      cond_both (λ (y : Account). Owned y x) (eqb i h) (after_cancellation handle a) a (λ t. owned_cancellation x handle a) (λ t. p)
  owned_notification x a (rx_indication i identifier len) p = p
  owned_notification x a (mode_indication c m) p = p
  owned_notification x a (bus_off_indication c) p = p
  owned_notification x a (development_error service error) p = p
  owned_notification x a (data_lost i) p = p
  owned_notification x a (error_passive_indication c tx rx) p = p

  owned_notifications : (x : LastFrame) (a : Account) (ns : List Notification) → Owned a x → Owned (after_notifications h a ns) x
  unfolding after_notifications
  owned_notifications x a [] p = p
  owned_notifications x a (n ∷ ns) p = owned_notifications x (after_notification h a n) ns (owned_notification x a n p)

  owned_compared : (x : LastFrame) (ram : List ℕ) (a : Account) → Owned a x → Owned (compared L F h ram a) x
  owned_compared x ram closed p = tt
  owned_compared x ram (held k b sent) p = cond_both (λ (y : Account). Owned y x) (same_bytes (object_in L.object_size ram h) b) (held k b sent) broken (λ t. p) (λ t. tt)
  owned_compared x ram broken p = tt

  owned_write : (handle : ℕ) (bytes : List ℕ) (a : Account) → Owned (after_write handle bytes a) (record { handle = handle; sent = false })
  owned_write handle bytes closed = (refl, refl)
  owned_write handle bytes (held k b sent) = tt
  owned_write handle bytes broken = tt

  owned_sent : (x : LastFrame) (a : Account) → Owned a x → Owned (after_sent a) (record { handle = x.handle; sent = true })
  owned_sent x closed p = tt
  owned_sent x (held k b sent) p =
      cond_both (λ (y : Account). Owned y (record { handle = x.handle; sent = true })) sent broken (held k b true) (λ t. tt) (λ t. (p.0, refl))
  owned_sent x broken p = tt

  owned_own : (cfg : Configuration F) (x : LastFrame) (a : Account) (y : AtObject F) → Owned a x → Owned (after_own L F h cfg a y) (own_frame F x y)
  owned_own cfg x a (written handle frame) p = owned_write handle (F.object_bytes (settings_at F cfg.settings h) handle frame) a
  owned_own cfg x a completed p = owned_sent x a p

  owned_effect : (cfg : Configuration F) (x : LastFrame) (a : Account) (e : Effect F) → Owned a x → Owned (after_effect L F h cfg a e) (frame_after F h x e)
  owned_effect cfg x a (at_object i y) p = go (eqb i h)
    where
      go : (t : Bool) → Owned (cond t (after_own L F h cfg a y) a) (cond t (own_frame F x y) x)
      go true = owned_own cfg x a y p
      go false = p
  owned_effect cfg x a nothing p = p
  owned_effect cfg x a (configuring y) p = p
  owned_effect cfg x a (at_controller c y) p = p
  owned_effect cfg x a (polling y) p = p

  -- one call
  pub owned_after : (cfg : Configuration F) (x : LastFrame) (a : Account) (e : Effect F) (o : Outcome (State F)) → Owned a x → Owned (account_after L F h cfg a e o) (frame_after F h x e)
  owned_after cfg x a e o p =
      owned_notifications (frame_after F h x e) _ o.notifications (owned_compared (frame_after F h x e) o.ram (after_effect L F h cfg a e) (owned_effect cfg x a e p))

  -- any list of them
  pub owned_list : (ys : List (Step F)) (cfg : Configuration F) (x : LastFrame) (a : Account) → Owned a x → Owned (account L F h cfg a ys) (last_frame F h x ys)
  unfolding account last_frame
  owned_list [] cfg x a p = p
  owned_list (y ∷ ys) cfg x a p =
      let e = effect_of F y in
      owned_list ys (in_force L F cfg e) (frame_after F h x e) (account_after L F h cfg a e y.outcome) (owned_after cfg x a e y.outcome p)
