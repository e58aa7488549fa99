-- A text in a buffer, as much of it as fits; one text behind another; and the digits of numbers and bytes.
use Prim.Native.Nat.{ℕ, zero, suc, ◌+◌, ◌-◌, ◌/◌, ◌%◌, ◌^◌, ◌≤◌, ◌<◌, min}
use mathlib.Core.Path.{◌≡◌, refl, ap, ◌∙◌}
use mathlib.Core.Bool.{false, ◌&&◌}
use mathlib.Core.List.{List, [], ◌∷◌, ◌++◌}
use native.Mathlib.Omega.{arith}
use native.Mathlib.Decide.{dec_le}
use native.Mathlib.Nat.{min-le_left, pow-zero, pow-suc, one-le-pow, mul-le-mul_left, div-lt_iff_lt-mul, le-div_iff_mul-le}
use borrow.Author.Tests.{eq-eqb, ne_eqb}
use lib.Dec.{eqb}
use lib.ListN.{length, take, length-take, length-append}
use Rattle.rules.specs.Bytes.{splice}
use Rattle.io.specs.Digits.{hex_digit_ascii, last_digits, IsDigitCount}
use Rattle.laws.proofs.Splices.{splice_nil, splice_splice, length_splice}
use Rattle.bench_text.specs.Put.{fitting, Put, numeral_within, numeral, hex_of}

-- there is no room, or no text
pub nothing_fits : (at : ℕ) (text before : List ℕ) → min (length before - at) (length text) ≡ 0 → Put at text before before at
nothing_fits at text before e =
    let none : fitting (length before) at text ≡ [] = empty (take (length before - at) text) (length-take (length before - at) text ∙ e) in
    record { text_is = rw (none, splice_nil); end_is = rw none (omega arith) }
  where
    empty : (l : List ℕ) → length l ≡ 0 → l ≡ []
    empty [] h = refl
    empty (x ∷ l) h = absurd (omega arith)

-- no text
pub nothing : (at : ℕ) (before : List ℕ) → Put at [] before before at
nothing at before = nothing_fits at [] before (omega arith)

-- the first so many elements of two lists in a row
take-append : (room : ℕ) (a b : List ℕ) → take room (a ++ b) ≡ take room a ++ take (room - length (take room a)) b
take-append zero [] b = refl
take-append zero (x ∷ a) b = refl
take-append (suc room) [] b = let e : suc room - 0 ≡ suc room = omega arith in rw e
take-append (suc room) (x ∷ a) b =
    let e : suc room - suc (length (take room a)) ≡ room - length (take room a) = omega arith in
    rw e (ap (λ (l : List ℕ). x ∷ l) (take-append room a b))

-- one text behind another is one text
module _ (at m r : ℕ) (a b before : List ℕ) {mid after : List ℕ} (p : Put at a before mid m) (q : Put m b mid after r) where
  room : ℕ
  room = length before - at

  xs : List ℕ
  xs = take room a

  ys : List ℕ
  ys = take (room - length xs) b

  short : length xs ≤ room
  unfolding xs
  short = rw (length-take room a) (min-le_left room (length a))

  both : take room (a ++ b) ≡ xs ++ ys
  unfolding xs ys
  both = take-append room a b

  joined : length mid ≡ length before → splice (at + length xs) ys mid ≡ splice at (xs ++ ys) before → Put at (a ++ b) before after r
  unfolding xs ys room
  joined same seam =
      let left : length mid - m ≡ room - length xs = rw (same, p.end_is) (omega arith) in
      record {
        text_is = rw both (rw (left, p.end_is) at q.text_is ∙ seam);
        end_is = rw (both, length-append) (rw (left, p.end_is) at q.end_is ∙ omega arith);
      }

  pub then : Put at (a ++ b) before after r
  unfolding xs ys room
  then = go (dec_le at (length before))
    where
      go : Dec (at ≤ length before) → Put at (a ++ b) before after r
      go (yes h) =
          let fits : at + length xs ≤ length before = omega (arith, short) in
          joined (rw p.text_is (length_splice at xs before fits)) (rw p.text_is (splice_splice at xs before fits ys))
      go (no h) =
          let none : room ≡ 0 = omega arith in
          let same : mid ≡ before = p.text_is ∙ rw (none, splice_nil) in
          let nil : 0 - 0 ≡ 0 = omega arith in
          joined (ap length same) (rw (same, none, nil, splice_nil (at + 0), splice_nil at))

-- a number is less than its power
lt-pow : (base : ℕ) → 1 < base → (k : ℕ) → k < base ^ k
lt-pow base h zero = rw (pow-zero base) (omega arith)
lt-pow base h (suc k) =
    let more = mul-le-mul_left (base ^ k) h in
    rw (pow-suc base k) (omega (arith, lt-pow base h k, more))

-- a further digit is due
pub due : (least n : ℕ) → (least ≡ 0 → 0 < n) → (eqb least 0 && eqb n 0) ≡ false
due zero n h = ne_eqb n 0 (λ e. let l = h refl in omega arith)
due (suc least) n h = rw (ne_eqb (suc least) 0 (λ e. omega arith))

-- the fewest digits that hold a number are those of its numeral
module _ (base : ℕ) (h : 1 < base) where
  digits_are : (k fuel least n : ℕ) → IsDigitCount base least n k → k ≤ fuel → last_digits base k n ≡ numeral_within fuel base least n
  unfolding numeral_within
  digits_are zero zero least n f l = refl
  digits_are zero (suc fuel) least n f l =
      let small : n < 1 = rw (pow-zero base) at f.1 in
      rw (eq-eqb least 0 (omega (arith, f.0)), eq-eqb n 0 (omega arith))
  digits_are (suc k) zero least n f l = absurd (omega arith)
  digits_are (suc k) (suc fuel) least n f l =
      rw (due least n some) (ap (λ (ds : List ℕ). ds ++ (hex_digit_ascii (n % base) ∷ [])) (digits_are k fuel (least - 1) (n / base) fewer (omega arith)))
    where
      some : least ≡ 0 → 0 < n
      some e = let one = one-le-pow k base (omega arith) in let low = f.2 (omega arith) in let e : suc k - 1 ≡ k = omega arith in omega (arith, rw e at low, one)

      low_digit : (j : ℕ) → k ≡ j → least - 1 < k → base ^ (j - 1) ≤ n / base
      low_digit zero e g = absurd (omega arith)
      low_digit (suc j) e g =
          let d : suc k - 1 ≡ suc j = omega (arith, e) in
          let l : suc j - 1 ≡ j = omega arith in
          rw l ((le-div_iff_mul-le {k = base} {x = base ^ j} {y = n} (omega arith)).1 (rw (d, pow-suc base j) at (f.2 (omega arith))))

      fewer : IsDigitCount base (least - 1) (n / base) k
      fewer = (omega (arith, f.0), (div-lt_iff_lt-mul {k = base} {x = n} {y = base ^ k} (omega arith)).1 (rw (pow-suc base k) at f.1), low_digit k refl)

  -- a number has no more digits than it counts to
  few : (k least n : ℕ) → IsDigitCount base least n k → k ≤ least + n
  few k least n f = go (dec_le k least)
    where
      go : Dec (k ≤ least) → k ≤ least + n
      go (yes l) = omega arith
      go (no l) = omega (arith, lt-pow base h (k - 1), f.2 (omega arith))

  pub numeral_is : (k least n : ℕ) → IsDigitCount base least n k → last_digits base k n ≡ numeral base least n
  numeral_is k least n f = digits_are k (least + n) least n f (few k least n f)

-- one byte more
pub hex_of_more : (bytes : List ℕ) (b : ℕ) → hex_of (bytes ++ (b ∷ [])) ≡ hex_of bytes ++ hex_of (b ∷ [])
unfolding hex_of
hex_of_more [] b = refl
hex_of_more (a ∷ bytes) b = rw (hex_of_more bytes b)
