-- 02, Q-4, "Frames that had already left": a frame whose sent event was accepted is never cancelled, and one that is cancelled was never
-- sent.
use Rattle.std.specs.Prelude.{ℕ, ◌≡◌, Bool, true, false, List, [], ◌∷◌}
use Rattle.rules.specs.Limits.{Limits}
use Rattle.rules.specs.Format.{Format}
use Rattle.rules.specs.Notification.{Notification}
use Rattle.history.specs.Call.{Call}
use Rattle.history.specs.Trace.{Step}
use Rattle.history.specs.Effect.{effect_of}
use Rattle.history.specs.Notices.{cancelled_in}
use Rattle.history.specs.LastFrame.{LastFrame, no_frame, frame_after}
use Rattle.history.specs.Claim.{history}

-- one call's records about object h, whose last frame was reported sent, or was not
pub record UnsentCancelled (h : ℕ) (sent : Bool) (ns : List Notification) : Type 0 where
  pub sent_stays : sent ≡ true → cancelled_in h ns ≡ false
  pub cancelled_unsent : cancelled_in h ns ≡ true → sent ≡ false

module _ (L : Limits) (F : Format) where
  -- each call of a trace: the write or sent event that it is, then its records
  abbrev pub OnlyUnsentCancelled : ℕ → LastFrame → List (Step F) → Type 0
  OnlyUnsentCancelled h x [] = Unit {0}
  OnlyUnsentCancelled h x (y ∷ ys) =
      UnsentCancelled h (frame_after F h x (effect_of F y)).sent y.outcome.notifications × OnlyUnsentCancelled h (frame_after F h x (effect_of F y)) ys

  -- every object, in any list of calls from before initialisation, with any first memory
  abbrev pub CancellationRule : Type 0
  CancellationRule = (h : ℕ) (calls : List (Call F)) (ram : List ℕ) → OnlyUnsentCancelled h no_frame (history L F calls ram)
