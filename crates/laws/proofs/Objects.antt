-- The objects in the message RAM do not overlap: laying one down changes no other.
use Prim.Native.Nat.{ℕ, ◌+◌, ◌≤◌, ◌<◌}
use mathlib.Core.Path.{◌≡◌, refl, ap, sym, ◌∙◌}
use mathlib.Core.Bool.{true}
use mathlib.Core.List.{List, [], ◌∷◌}
use native.Mathlib.Omega.{arith}
use native.Mathlib.Decide.{dec_lt}
use native.Mathlib.Nat.{mul-le-mul_left, mul-suc}
use lib.ListN.{length}
use borrow.Author.Tests.{eq-eqb}
use Rattle.rules.specs.Limits.{Limits, object_start, ram_size}
use Rattle.rules.specs.Bytes.{part, splice, same_bytes}
use Rattle.rules.specs.Polls.{object_in}
use Rattle.laws.proofs.Splices.{part_splice, part_before, part_behind}

pub same_bytes_refl : (xs : List ℕ) → same_bytes xs xs ≡ true
unfolding same_bytes
same_bytes_refl [] = refl
same_bytes_refl (x ∷ xs) = rw (eq-eqb x x refl) (same_bytes_refl xs)

module _ (L : Limits) where
  -- an object ends where the next begins, and the last one where the RAM ends
  pub object_end : (i j : ℕ) → i < j → object_start L i + L.object_size ≤ object_start L j
  object_end i j h = rw (mul-suc L.object_size i) at (mul-le-mul_left L.object_size h)

  module _ (bytes ram : List ℕ) (fills : length bytes ≡ L.object_size) (whole : length ram ≡ ram_size L) (i : ℕ) (inside : i < L.objects) where
    room : object_start L i + length bytes ≤ length ram
    room = rw (fills, whole) (object_end i L.objects inside)

    pub object_laid : object_in L.object_size (splice (object_start L i) bytes ram) i ≡ bytes
    object_laid = ap (λ (n : ℕ). part (object_start L i) n (splice (object_start L i) bytes ram)) (sym fills) ∙ part_splice (object_start L i) bytes ram room

    pub object_kept : (j : ℕ) → (j ≡ i → ⊥) → object_in L.object_size (splice (object_start L i) bytes ram) j ≡ object_in L.object_size ram j
    object_kept j apart = go (dec_lt j i)
      where
        go : Dec (j < i) → object_in L.object_size (splice (object_start L i) bytes ram) j ≡ object_in L.object_size ram j
        go (yes l) = part_before (object_start L i) bytes ram room (object_start L j) L.object_size (object_end j i l)
        go (no l) = part_behind (object_start L i) bytes ram room (object_start L j) L.object_size (rw fills (object_end i j (omega arith)))
