-- The choice in code, an arrival's and that of who sends next: the object picked so far, with its rank at hand. 01: "It is stored in the
-- lowest-numbered empty object that fits".
use Rattle.std.specs.Prelude.{ℕ, Bool, true, cond, ◌&&◌, ltb, Option, Some, None}
use Rattle.std.proofs.Math.Option as math
use Rattle.core_events.specs.declared.pick.Picked.{Picked}

-- the object's number, as the rules have it
abbrev pub view_pick : Option Picked → math.Option ℕ
view_pick None = math.none
view_pick (Some best) = math.some best.number

-- an object of this rank ranks higher than the best, if there is one
abbrev pub outranks : ℕ → Option Picked → Bool
outranks rank None = true
outranks rank (Some best) = ltb best.rank rank

-- the rules' `better` with the ranks at hand
abbrev pub better_pick : ℕ → Bool → ℕ → Option Picked → Option Picked
better_pick number fits rank best = cond (fits && outranks rank best) (Some (record { number = number; rank = rank })) best
