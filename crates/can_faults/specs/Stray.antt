-- Which bit of a filter code is stray, and what that answer is held to. 02, Q-1.
use Rattle.std.specs.Prelude.{ℕ, zero, suc, ◌≡◌, Bool, false, not, cond, Option, Some, None}
use Rattle.rules.specs.Can.{identifier_bits, stray_at, within_mask}

-- the highest number below n that the test holds of
unfoldable pub highest_below : ℕ → (ℕ → Bool) → Option ℕ
highest_below zero p = None
highest_below (suc n) p = cond (p n) (Some n) (highest_below n p)

-- the first of "bits 28 to 0" that has "a one where the mask has a zero"
abbrev pub stray_bit : ℕ → ℕ → Option ℕ
stray_bit code mask = highest_below identifier_bits (stray_at code mask)

-- a bit is named, and is stray
abbrev pub stray_named : ℕ → ℕ → Option ℕ → Bool
stray_named code mask None = false
stray_named code mask (Some k) = stray_at code mask k

-- a bit is named, and is stray, exactly if the code has a stray bit
abbrev pub StrayRule : Type 0
StrayRule = (code mask : ℕ) → stray_named code mask (stray_bit code mask) ≡ not (within_mask code mask)
