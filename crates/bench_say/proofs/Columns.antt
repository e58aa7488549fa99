-- A text at the left of its columns, and the digits of a number.
use Prim.Native.Nat.{ℕ, zero, suc, ◌-◌, ◌/◌, ◌≤◌}
use mathlib.Core.Path.{◌≡◌, refl, sym, ap, ◌∙◌}
use mathlib.Core.List.{List, ◌++◌}
use native.Mathlib.Omega.{arith}
use native.Mathlib.Decide.{dec_le}
use lib.ListN.{length, length-append}
use lib.Seq.{take-append-le, take_all}
use Rattle.io.specs.Digits.{last_digits, IsDigitCount}
use Rattle.bench_text.specs.Put.{Put, fitting, decimal}
use Rattle.bench_text.proofs.Writing.{then, numeral_is}
use Rattle.bench_say.specs.Form.{spaces, gap, column}

-- so many digits are so long
length_digits : (base k n : ℕ) → length (last_digits base k n) ≡ k
length_digits base zero n = refl
length_digits base (suc k) n = rw length-append (omega (arith, length_digits base k (n / base)))

pub decimal_long : (k n : ℕ) → IsDigitCount 10 1 n k → k ≡ length (decimal n)
decimal_long k n f = sym (length_digits 10 k n) ∙ ap length (numeral_is 10 (omega arith) k 1 n f)

-- where a text fills the room, what follows it does not matter
cut : (at r : ℕ) (a x y before : List ℕ) {after : List ℕ} → length before - at ≤ length a → Put at (a ++ x) before after r → Put at (a ++ y) before after r
cut at r a x y before h p =
    let e : fitting (length before) at (a ++ x) ≡ fitting (length before) at (a ++ y) =
    take-append-le (length before - at) a x h ∙ sym (take-append-le (length before - at) a y h) in
    record { text_is = rw e at p.text_is; end_is = rw e at p.end_is }

-- a text, and the spaces that its end lacks of its columns
pub in_column : (at m r width : ℕ) (a before : List ℕ) {mid after : List ℕ} → Put at a before mid m → Put m (spaces (gap width (m - at))) mid after r → Put at (column width a) before after r
in_column at m r width a before {mid} {after} p q = go (dec_le (length a) (length before - at))
  where
    both : Put at (a ++ spaces (gap width (m - at))) before after r
    both = then at m r a (spaces (gap width (m - at))) before p q

    go : Dec (length a ≤ length before - at) → Put at (column width a) before after r
    go (yes h) =
        let whole : fitting (length before) at a ≡ a = take_all (length before - at) a h in
        let used : m - at ≡ length a = rw (p.end_is, whole) (omega arith) in
        rw used at both
    go (no h) = cut at r a (spaces (gap width (m - at))) (spaces (gap width (length a))) before (omega arith) both
