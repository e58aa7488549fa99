-- What is written as text is read back: bytes as hex digits in pairs, and the digits of a number.
use Prim.Native.Nat.{ℕ, zero, suc, ◌+◌, ◌*◌, ◌-◌, ◌/◌, ◌%◌, ◌≤◌, ◌<◌, min, max}
use native.Mathlib.Nat.{add_comm, mod-lt, mod-add-div', zero-div, div-lt_self, lt_of_lt_of_le}
use native.Mathlib.Decide.{dec_lt}
use native.Mathlib.Omega.{arith}
use mathlib.Core.Path.{◌≡◌, refl, sym, ap, ◌∙◌}
use mathlib.Core.Bool.{true, not, cond, ◌&&◌}
use mathlib.Core.List.{List, [], ◌∷◌, ◌++◌}
use lib.ListN.{length, get_or}
use lib.Seq.{ext_get_or}
use lib.Dec.{eqb, ltb}
use borrow.Author.Tests.{lt-ltb, le-ltb, le-leb, lt-leb, eq-eqb, ne_eqb}
use Rattle.io.specs.Digits.{hex_digit_ascii}
use Rattle.rules.specs.Repeat.{list_below}
use Rattle.laws.proofs.Tests.{both}
use Rattle.laws.proofs.Repeat.{length-list_below, get_or-list_below}
use Rattle.std.specs.Prelude.{Ok}
use Rattle.std.specs.List.{list_all}
use Rattle.bench_words.specs.Reading.{digit, all_digits, value, pair, pair_at, hex_pairs, byte_count_of}
use Rattle.bench_words.proofs.Digits.{value_snoc}
use Rattle.bench_text.specs.Put.{hex_of, numeral_within, numeral, decimal, hexadecimal}
use Rattle.bench_text.proofs.Writing.{due}

-- A digit is written as a byte that reads as the digit.
glyph_back : (d : ℕ) → d < 16 → digit (hex_digit_ascii d) ≡ d
unfolding digit
glyph_back d h = go (dec_lt d 10)
  where
    go : Dec (d < 10) → digit (hex_digit_ascii d) ≡ d
    go (yes l) = rw (lt-ltb d 10 l, le-leb 48 (48 + d) (omega arith), le-leb (48 + d) 57 (omega arith)) (omega arith)
    go (no l) =
        rw (le-ltb d 10 (omega arith), le-leb 48 (87 + d) (omega arith), lt-leb (87 + d) 57 (omega arith), le-leb 97 (87 + d) (omega arith), le-leb (87 + d) 102 (omega arith))
        (omega arith)

-- Two digits are read as the byte that they were written for.
pair_back : (b : ℕ) → b < 256 → pair (hex_digit_ascii (b / 16)) (hex_digit_ascii (b % 16)) ≡ b
unfolding pair
pair_back b h = rw (glyph_back (b / 16) (omega arith), glyph_back (b % 16) (omega arith)) (omega arith)

-- The elements are bytes.
abbrev pub Bytes : List ℕ → Type 0
Bytes bs = (i : ℕ) → i < length bs → get_or bs i 0 < 256

rest : (b : ℕ) (bs : List ℕ) → Bytes (b ∷ bs) → Bytes bs
rest b bs h i l = h (suc i) (omega arith)

-- Where the two digits of each byte stand.
hex_length : (bs : List ℕ) → length (hex_of bs) ≡ 2 * length bs
unfolding hex_of
hex_length [] = refl
hex_length (b ∷ bs) = let e = hex_length bs in omega arith

hex_count : (bs : List ℕ) → length (hex_of bs) / 2 ≡ length bs
hex_count bs = omega (arith, hex_length bs)

hex_high : (bs : List ℕ) (i : ℕ) → i < length bs → get_or (hex_of bs) (2 * i) 0 ≡ hex_digit_ascii (get_or bs i 0 / 16)
unfolding hex_of
hex_high [] i h = absurd (omega arith)
hex_high (b ∷ bs) zero h = refl
hex_high (b ∷ bs) (suc i) h = let e : 2 * suc i ≡ suc (suc (2 * i)) = omega arith in rw e (hex_high bs i (omega arith))

hex_low : (bs : List ℕ) (i : ℕ) → i < length bs → get_or (hex_of bs) (2 * i + 1) 0 ≡ hex_digit_ascii (get_or bs i 0 % 16)
unfolding hex_of
hex_low [] i h = absurd (omega arith)
hex_low (b ∷ bs) zero h = refl
hex_low (b ∷ bs) (suc i) h = let e : 2 * suc i + 1 ≡ suc (suc (2 * i + 1)) = omega arith in rw e (hex_low bs i (omega arith))

-- Bytes that are written as hex digits are read back.
pub hex_back : (bs : List ℕ) → Bytes bs → hex_pairs (hex_of bs) ≡ bs
unfolding hex_pairs
hex_back bs h =
    let said = list_below (length bs) (pair_at (hex_of bs)) in
    let long : length said ≡ length bs = length-list_below (length bs) (pair_at (hex_of bs)) in
    rw (hex_count bs)
    (ext_get_or 0 said bs long
    (λ i l.
    let k : i < length bs = rw long at l in
    get_or-list_below (length bs) (pair_at (hex_of bs)) i 0 k ∙ rw (hex_high bs i k, hex_low bs i k) (pair_back (get_or bs i 0) (h i k))))

-- Every byte of the text is a digit.
hex_digit : (d : ℕ) → d < 16 → ltb (digit (hex_digit_ascii d)) 16 ≡ true
hex_digit d h = rw (glyph_back d h) (lt-ltb d 16 h)

all_hex : (bs : List ℕ) → Bytes bs → list_all (λ b. ltb (digit b) 16) (hex_of bs) ≡ true
unfolding hex_of
all_hex [] h = refl
all_hex (b ∷ bs) h =
    let small = h 0 (omega arith) in
    both (hex_digit (b / 16) (omega arith)) (both (hex_digit (b % 16) (omega arith)) (all_hex bs (rest b bs h)))

hex_digits : (bs : List ℕ) → Bytes bs → 0 < length bs → all_digits 16 (hex_of bs) ≡ true
unfolding all_digits
hex_digits bs h some =
    both (ap not (ne_eqb (length (hex_of bs)) 0 (λ e. omega (arith, hex_length bs)))) (all_hex bs h)

-- So are they counted, where there are any.
pub count_back : (bs : List ℕ) → Bytes bs → 0 < length bs → byte_count_of (hex_of bs) ≡ Ok (length bs)
unfolding byte_count_of
count_back bs h some =
    let long = hex_length bs in
    rw (hex_digits bs h some, eq-eqb (length (hex_of bs) % 2) 0 (omega arith), hex_count bs)

-- A number is read back from its digits in a base, however many are asked for.
module _ (base : ℕ) (some : 1 < base) (most : base ≤ 16) where
  -- one digit more
  snoc_back : (ds : List ℕ) (n : ℕ) → value base ds ≡ n / base → value base (ds ++ (hex_digit_ascii (n % base) ∷ [])) ≡ n
  snoc_back ds n e =
      rw (value_snoc base ds (hex_digit_ascii (n % base)), e, glyph_back (n % base) (lt_of_lt_of_le (mod-lt n (omega arith)) most))
      (add_comm (n / base * base) (n % base) ∙ mod-add-div' n base)

  -- from the digits before the last one
  module _ (k least n : ℕ) (back : n / base ≤ k → value base (numeral_within k base (least - 1) (n / base)) ≡ n / base) where
    all : List ℕ
    all = cond (eqb least 0 && eqb n 0) [] (numeral_within k base (least - 1) (n / base) ++ (hex_digit_ascii (n % base) ∷ []))

    further : (least ≡ 0 → 0 < n) → n / base ≤ k → value base all ≡ n
    unfolding all
    further d l = rw (due least n d) (snoc_back (numeral_within k base (least - 1) (n / base)) n (back l))

    at_zero : (m : ℕ) → least ≡ m → n ≡ 0 → value base all ≡ n
    unfolding all value
    at_zero zero e z = rw (eq-eqb least 0 e, eq-eqb n 0 z) (sym z)
    at_zero (suc m) e z = further (λ o. absurd (omega arith)) (rw (z, zero-div base) (omega arith))

    step : n ≤ suc k → Dec (0 < n) → value base all ≡ n
    step h (yes l) = further (λ e. l) (omega (arith, div-lt_self l some))
    step h (no l) = at_zero least refl (omega arith)

  within_back : (k least n : ℕ) → n ≤ k → value base (numeral_within k base least n) ≡ n
  unfolding numeral_within value all
  within_back zero least n h = omega arith
  within_back (suc k) least n h = step k least n (within_back k (least - 1) (n / base)) h (dec_lt 0 n)

  pub numeral_back : (least n : ℕ) → value base (numeral base least n) ≡ n
  numeral_back least n = within_back (least + n) least n (omega arith)

-- So are a number in decimal and one in hexadecimal.
pub decimal_back : (n : ℕ) → value 10 (decimal n) ≡ n
decimal_back n = numeral_back 10 (omega arith) (omega arith) 1 n

pub hexadecimal_back : (width n : ℕ) → value 16 (hexadecimal width n) ≡ n
hexadecimal_back width n = numeral_back 16 (omega arith) (omega arith) (min (max width 1) 16) n
