-- The code of a record, byte by byte: its last byte is zero where the record says a pool there.
use Prim.Native.Nat.{ℕ}
use native.Mathlib.Omega.{arith}
use mathlib.Core.Path.{◌≡◌, sym}
use mathlib.Core.Bool.{Bool, true, false, cond}
use mathlib.Core.List.{List, [], ◌∷◌, ◌++◌}
use lib.ListN.{length, get_or}
use Rattle.rules.specs.Repeat.{list_below}
use Rattle.rules.specs.Bytes.{number, part}
use Rattle.rules.specs.Can.{can_format, says_pool, code_of}
use Rattle.laws.proofs.Splices.{read_part}

module _ (r : List ℕ) (whole : length r ≡ can_format.record_size) where
  bytes_read : (last : Bool)
      → cond last (number (part 4 3 r ++ (0 ∷ []))) (number (part 4 4 r)) ≡ number (get_or r 4 0 ∷ get_or r 5 0 ∷ get_or r 6 0 ∷ cond last 0 (get_or r 7 0) ∷ [])
  unfolding list_below
  bytes_read true = rw (sym (read_part 4 3 r 0 (omega arith)))
  bytes_read false = rw (sym (read_part 4 4 r 0 (omega arith)))

  pub code_read : (version : ℕ) → code_of version r ≡ number (get_or r 4 0 ∷ get_or r 5 0 ∷ get_or r 6 0 ∷ cond (says_pool version r) 0 (get_or r 7 0) ∷ [])
  code_read version = bytes_read (says_pool version r)
