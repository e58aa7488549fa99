-- Laws of places: a count past the last one, and a place that is changed.
use Prim.Native.Nat.{ℕ, ◌<◌, min}
use mathlib.Core.Path.{◌≡◌, refl, sym}
use mathlib.Core.Bool.{Bool, true, false}
use mathlib.Core.List.{List}
use native.Mathlib.Omega.{arith}
use lib.ListN.{set}
use lib.Dec.{ltb}
use borrow.Author.Tests.{lt-ltb, le-ltb, ltb-true, ltb-false}
use Rattle.rules.specs.Errors as errors
use Rattle.rules.specs.Core as rules

-- A count past the last place asks no more than that place does.
pub limited_count : (i n count : ℕ) → i < n → ltb i count ≡ ltb i (min count n)
limited_count i n count l = go (ltb i count) refl
  where
    go : (b : Bool) → ltb i count ≡ b → b ≡ ltb i (min count n)
    go true e = let below = ltb-true i count e in sym (lt-ltb i (min count n) (omega arith))
    go false e = let past = ltb-false i count e in sym (le-ltb i (min count n) (omega arith))

-- a place that is read in the list that a caller holds, and what is stored there, in the core's own list
pub controller_changed : (f : rules.Controller → rules.Controller) (c : ℕ) {kept ks ks' : List rules.Controller} {k k' : rules.Controller}
    → kept ≡ ks → k ≡ rules.controller_at ks c → k' ≡ f k → ks' ≡ set ks c k' → ks' ≡ set kept c (f (rules.controller_at kept c))
controller_changed f c held seen changed stored = rw (stored, changed, seen, held)

pub errors_changed : (f : errors.Errors → errors.Errors) (c : ℕ) {kept es es' : List errors.Errors} {e e' : errors.Errors}
    → kept ≡ es → e ≡ rules.errors_at es c → e' ≡ f e → es' ≡ set es c e' → es' ≡ set kept c (f (rules.errors_at kept c))
errors_changed f c held seen changed stored = rw (stored, changed, seen, held)

pub mailbox_stored : (h : ℕ) {kept ms ms' : List rules.Mailbox} {m m' : rules.Mailbox} → kept ≡ ms → m ≡ m' → ms' ≡ set ms h m → ms' ≡ set kept h m'
mailbox_stored h held is stored = rw (stored, is, held)
