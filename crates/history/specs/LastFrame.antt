-- The last frame that an object took, read off the calls: its write's handle, and whether it was reported sent.
use Rattle.std.specs.Prelude.{ℕ, Bool, true, false, cond, List, [], ◌∷◌, eqb}
use Rattle.rules.specs.Format.{Format}
use Rattle.history.specs.Trace.{Step}
use Rattle.history.specs.Effect.{AtObject, written, completed, Effect, nothing, configuring, at_object, at_controller, polling, effect_of}

pub record LastFrame : Type 0 where
  pub handle : ℕ
  pub sent : Bool

-- before the first write
abbrev pub no_frame : LastFrame
no_frame = record { handle = 0; sent = false }

module _ (F : Format) where
  -- "its own write is the last accepted one to that object"; 02, Q-4: "a frame reported sent" is one with an accepted sent event since
  abbrev pub own_frame : LastFrame → AtObject F → LastFrame
  own_frame x (written handle frame) = record { handle = handle; sent = false }
  own_frame x completed = record { handle = x.handle; sent = true }

  abbrev pub frame_after : ℕ → LastFrame → Effect F → LastFrame
  frame_after h x (at_object i y) = cond (eqb i h) (own_frame x y) x
  frame_after h x nothing = x
  frame_after h x (configuring y) = x
  frame_after h x (at_controller c y) = x
  frame_after h x (polling p) = x

  -- the last frame after a trace
  unfoldable pub last_frame : ℕ → LastFrame → List (Step F) → LastFrame
  last_frame h x [] = x
  last_frame h x (y ∷ ys) = last_frame h (frame_after h x (effect_of F y)) ys
