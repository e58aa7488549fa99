-- A code has no stray bit exactly where its mask takes nothing away from it: shown bit by bit, for any number of bits.
-- Assumes nothing.
use Prim.Native.Nat.{ℕ, zero, suc, ◌+◌, ◌-◌, ◌*◌, ◌/◌, ◌%◌, ◌^◌, ◌<◌, min}
use native.Mathlib.Nat.{mod-lt, mod-one, min-le_left, zero-min, lt_of_le_of_lt}
use native.Mathlib.Numerals.{one-add}
use native.Mathlib.Omega.{arith}
use mathlib.Core.Path.{◌≡◌, refl, sym, ap, ap₂, ◌∙◌}
use mathlib.Core.Bool.{Bool, true, false, not, ◌&&◌}
use lib.Arith.{digits_div, digits_mod}
use lib.Pow.{pow_pos, mod-pow-add}
use lib.Bits.{bit_and, and_step, and_shr, and_mask}
use lib.Dec.{eqb, lit<}
use borrow.Author.Tests.{eqb-true, eqb-false, eq-eqb, ne_eqb}
use Rattle.rules.specs.Repeat.{all_below}
use Rattle.rules.specs.Can.{stray_at}

-- two numbers of two digits each are equal exactly if the low digits are and the high digits are
digits_eqb : {m r s : ℕ} (p q : ℕ) → r < m → s < m → eqb (p * m + r) (q * m + s) ≡ (eqb r s && eqb p q)
digits_eqb {m} {r} {s} p q hr hs = go (eqb r s) (eqb p q) refl refl
  where
    go : (low high : Bool) → eqb r s ≡ low → eqb p q ≡ high → eqb (p * m + r) (q * m + s) ≡ (low && high)
    go true true el eh = eq-eqb _ _ (ap₂ (λ (x y : ℕ). x * m + y) (eqb-true p q eh) (eqb-true r s el))
    go true false el eh = ne_eqb _ _ (λ e. eqb-false p q eh (sym (digits_div p hr) ∙ ap (λ (x : ℕ). x / m) e ∙ digits_div q hs))
    go false high el eh = ne_eqb _ _ (λ e. eqb-false r s el (sym (digits_mod p hr) ∙ ap (λ (x : ℕ). x % m) e ∙ digits_mod q hs))

-- the n + 1 low bits of a number are bit n and the n bits below it
low_bits : (x n : ℕ) → x % 2 ^ suc n ≡ x / 2 ^ n % 2 * 2 ^ n + x % 2 ^ n
low_bits x n = rw one-add at (mod-pow-add x 1 n)

-- bit n of two numbers that are masked by each other is the lower of their bits
and_bit : (a b n : ℕ) → bit_and a b / 2 ^ n % 2 ≡ min (a / 2 ^ n % 2) (b / 2 ^ n % 2)
and_bit a b n =
    let x = a / 2 ^ n in
    let y = b / 2 ^ n in
    rw (and_shr, and_step x y)
    (digits_mod (bit_and (x / 2) (y / 2)) (lt_of_le_of_lt (min-le_left (x % 2) (y % 2)) (mod-lt x (lit< tt))))

-- the mask takes a bit away exactly where it is stray
bit_taken : (c m : ℕ) → c < 2 → m < 2 → eqb (min c m) c ≡ not (eqb c 1 && not (eqb m 1))
bit_taken zero m hc hm = rw zero-min
bit_taken (suc zero) zero hc hm = refl
bit_taken (suc zero) (suc zero) hc hm = refl
bit_taken (suc zero) (suc (suc m)) hc hm = absurd (omega arith)
bit_taken (suc (suc c)) m hc hm = absurd (omega arith)

module _ (code mask : ℕ) where
  taken : (n : ℕ) → eqb (bit_and code mask % 2 ^ n) (code % 2 ^ n) ≡ all_below n (λ k. not (stray_at code mask k))
  unfolding all_below
  taken zero = rw (mod-one (bit_and code mask), mod-one code)
  taken (suc n) =
      let bit : ℕ → ℕ = λ x. x / 2 ^ n % 2 in
      ap₂ eqb (low_bits (bit_and code mask) n) (low_bits code n)
      ∙ digits_eqb (bit (bit_and code mask)) (bit code) (mod-lt (bit_and code mask) (pow_pos n)) (mod-lt code (pow_pos n))
      ∙ ap₂ ◌&&◌ (taken n) (ap (λ (x : ℕ). eqb x (bit code)) (and_bit code mask n) ∙ bit_taken (bit code) (bit mask) (mod-lt _ (lit< tt)) (mod-lt _ (lit< tt)))

  -- masked, the n low bits of the code are as they were exactly if none of them is stray
  pub no_stray : (n : ℕ) → eqb (bit_and (bit_and code mask) (2 ^ n - 1)) (bit_and code (2 ^ n - 1)) ≡ all_below n (λ k. not (stray_at code mask k))
  no_stray n = rw (and_mask (bit_and code mask) n, and_mask code n) (taken n)
