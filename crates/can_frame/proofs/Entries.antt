-- The table of wire lengths and DLC codes says what the rule says: one test over all of its entries, which antt computes, and a law that
-- reads it at each length. Past the table the search finds no length. Assumes nothing.
use Prim.Native.Nat.{ℕ, zero, suc, ◌<◌, ◌≤◌, ◌/◌, ◌%◌}
use mathlib.Core.Path.{◌≡◌, sym}
use mathlib.Core.Bool.{Bool, ◌&&◌}
use native.Mathlib.Omega.{arith}
use native.Mathlib.Decide.{dec_lt}
use lib.Dec.{T, eqb, eqb→eq}
use lib.ListN.{get_or-eq_default}
use Rattle.rules.specs.Repeat.{all_below}
use Rattle.rules.specs.Can.{next_length, lengths_below, fd_lengths, wire_length, dlc_code, longest_fd}
use Rattle.can_frame.specs.Table.{wire_table, entries, no_entry, wire_entry, NoneBelow}
use Rattle.can_frame.proofs.Laws.{and_left, and_right, below_at, passes_all}

-- a number that is none of those below k is not below k
pub not_below : (k : ℕ) {n : ℕ} → NoneBelow k n → k ≤ n
not_below zero none = omega arith
not_below (suc k) none =
    let below = not_below k none.0 in
    let other = none.1 in
    omega arith

-- past the table there is no entry
pub past_the_table : {n : ℕ} → entries ≤ n → no_entry ≡ wire_entry n
past_the_table far = sym (get_or-eq_default wire_table no_entry far)

-- the entry of n has the rule's wire length, and its DLC code
abbrev length_right : ℕ → Bool
length_right n = eqb (wire_entry n / 256) (wire_length n)

abbrev code_right : ℕ → Bool
code_right n = eqb (wire_entry n % 256) (dlc_code n)

-- every entry has both
checked : T (all_below entries (λ n. length_right n && code_right n))
unfolding all_below next_length lengths_below
checked = tt

abbrev pub Right : ℕ → Type 0
Right n = (wire_entry n / 256 ≡ wire_length n) × (wire_entry n % 256 ≡ dlc_code n)

in_table : (n : ℕ) → n < entries → Right n
in_table n near =
    let both = below_at entries (λ k. length_right k && code_right k) checked n near in (
      eqb→eq (wire_entry n / 256) (wire_length n) (and_left (length_right n) (code_right n) both),
      eqb→eq (wire_entry n % 256) (dlc_code n) (and_right (length_right n) (code_right n) both),
    )

past : (n : ℕ) → entries ≤ n → Right n
past n far = rw (← past_the_table far) (passes_all fd_lengths longest_fd tt far)

pub table_rule : (n : ℕ) → Right n
table_rule n = go (dec_lt n entries)
  where
    go : Dec (n < entries) → Right n
    go (yes near) = in_table n near
    go (no far) = past n (omega arith)
