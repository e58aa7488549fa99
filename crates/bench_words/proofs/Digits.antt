-- The value that digits spell: how large it can be, and one more digit at the end.
use Rattle.std.proofs.Common.{◌≡◌, ℕ, ◌+◌, ◌*◌, ◌^◌, ◌<◌, ◌≤◌, true, List, [], ◌∷◌, ◌++◌, length, get_or, drop, map, arith, drop-cons, add-one, drop_of_length-le}
use Rattle.std.proofs.lemmas.List.{length-map, map-append}
use Rattle.std.specs.Prelude.{eqb, ltb, not, Some, None}
use Rattle.std.specs.Int.Digits.{number_from_digits_after, AllBelowBase}
use Rattle.std.specs.List.{list_all}
use Rattle.std.proofs.lemmas.Int.Digits.{number_after_ge, number_lt, number_push}
use Rattle.std.proofs.lemmas.Bool.Decides.{nat_tests}
use borrow.Author.Tests.{ltb-true, lt-ltb, le-ltb}
use Rattle.laws.proofs.Tests.{left, right}
use Rattle.bench_words.specs.Reading.{digit, all_digits, value, sayable, largest}

pub digit_low : (b : ℕ) → digit b ≤ 16
unfolding digit
digit_low b = grind (arith, nat_tests)

-- what `sayable` tells of a number
pub said : (n : ℕ) {v : ℕ} → Some v ≡ sayable n → (v ≡ n) × (n ≤ largest)
said n e = grind (arith, nat_tests)

pub unsaid : (n : ℕ) → None ≡ sayable n → largest < n
unsaid n e = grind (arith, nat_tests)

-- A loop is at digit i: with the digits that are left, v comes to what all of them spell.
pub record At (base : ℕ) (w : List ℕ) (v i : ℕ) : Type 0 where
  pub low : v ≤ largest
  pub rest : number_from_digits_after base v (map digit (drop i w)) ≡ value base w

module _ (base : ℕ) (w : List ℕ) {v i : ℕ} (at : At base w v i) where
  -- at the end
  pub whole : length w ≤ i → Some v ≡ sayable (value base w)
  unfolding value
  whole h =
      let none = rw (drop_of_length-le w {i = i} h) at at.rest in
      rw (← none, le-ltb largest v at.low)

  -- one more digit is read
  next_rest : i < length w → number_from_digits_after base (v * base + digit (get_or w i 0)) (map digit (drop (i + 1) w)) ≡ value base w
  next_rest h = rw (add-one i) (rw (drop-cons w i 0 h) at at.rest)

  pub next : i < length w → {d n : ℕ} → d ≡ digit (get_or w i 0) → Some n ≡ sayable (v * base + d) → At base w n (i + 1)
  next h e told =
      let is = said (v * base + digit (get_or w i 0)) (rw e at told) in
      record { low = omega arith; rest = rw is.0 (next_rest h) }

  -- a value that it makes too large is too large in the end
  pub too_large : i < length w → {d : ℕ} → d ≡ digit (get_or w i 0) → None ≡ sayable (v * base + d) → None ≡ sayable (value base w)
  unfolding value
  too_large h e told =
      let more = v * base + digit (get_or w i 0) in
      let large = unsaid more (rw e at told) in
      let ge = number_after_ge base more (map digit (drop (i + 1) w)) (in_base large) in
      rw (lt-ltb largest (value base w) (omega (arith, large, ge, next_rest h)))
    where
      -- in base 0 no value is too large
      in_base : largest < v * base + digit (get_or w i 0) → 0 < base
      in_base l = let low = digit_low (get_or w i 0) in grind arith

all_below : (base : ℕ) (w : List ℕ) → list_all (λ b. ltb (digit b) base) w ≡ true → AllBelowBase base (map digit w)
all_below base [] h = tt
all_below base (b ∷ w) h =
    (ltb-true (digit b) base (left (ltb (digit b) base) _ h), all_below base w (right (ltb (digit b) base) _ h))

-- Digits of the base spell less than its power by how many they are.
pub value_below : (base : ℕ) (w : List ℕ) → all_digits base w ≡ true → value base w < base ^ length w
unfolding all_digits value
value_below base w h =
    rw length-map at (number_lt base (map digit w) (all_below base w (right (not (eqb (length w) 0)) _ h)))

-- One more digit at the end.
pub value_snoc : (base : ℕ) (w : List ℕ) (b : ℕ) → value base (w ++ (b ∷ [])) ≡ value base w * base + digit b
unfolding value
value_snoc base w b = rw map-append (number_push base (map digit w) (digit b))
