-- The bytes of an object: how many they are, what they depend on, and what is read back from them.
use Prim.Native.Nat.{ℕ, ◌≤◌, ◌<◌, ◌^◌}
use mathlib.Core.Path.{◌≡◌, refl, sym}
use mathlib.Core.Bool.{Bool, true, false, cond, ◌&&◌, ◌||◌, true≢false}
use mathlib.Core.List.{List, [], ◌∷◌}
use native.Mathlib.Omega.{arith}
use lib.Dec.{leb, eqb}
use lib.ListN.{length, length-append, length-replicate}
use borrow.Author.Tests.{leb-true, leb-false, ne_eqb}
use Rattle.rules.specs.Bytes.{big_endian, number}
use Rattle.rules.specs.Head.{handle_in}
use Rattle.rules.specs.Can.{Frame, Settings, fd_lengths, next_length, wire_length, longest_fd, object_bytes}
use Rattle.rules.specs.Chip.{chip}
use Rattle.laws.proofs.Tests.{left, right}

-- every length is at most m, and one of them is m
abbrev rises_to : ℕ → List ℕ → Bool
rises_to m [] = false
rises_to m (l ∷ ls) = leb l m && (eqb l m || rises_to m ls)

-- so the first length that is at least n is found, and is at most m
next_within : (ls : List ℕ) (m n : ℕ) → rises_to m ls ≡ true → n ≤ m → (n ≤ next_length ls n) × (next_length ls n ≤ m)
unfolding next_length
next_within [] m n t h = absurd (true≢false (sym t))
next_within (l ∷ ls) m n t h = go (leb n l) refl (λ above. next_within ls m n (rw (ne_eqb l m (λ q. omega arith)) at (right (leb l m) (eqb l m || rises_to m ls) t)) h)
  where
    go : (b : Bool) → leb n l ≡ b → (l < n → (n ≤ next_length ls n) × (next_length ls n ≤ m)) → (n ≤ cond b l (next_length ls n)) × (cond b l (next_length ls n) ≤ m)
    go true e rest = (leb-true n l e, leb-true l m (left (leb l m) (eqb l m || rises_to m ls) t))
    go false e rest = rest (leb-false n l e)

-- the wire length is no shorter than the data, and no longer than the longest
pub wire_within : (n : ℕ) → n ≤ longest_fd → (n ≤ wire_length n) × (wire_length n ≤ longest_fd)
wire_within n h = next_within fd_lengths longest_fd n refl h

-- an object's bytes depend on its settings by the padding value alone
pub padding_only : (s t : Settings) (handle : ℕ) (f : Frame) → s.padding ≡ t.padding → object_bytes s handle f ≡ object_bytes t handle f
unfolding object_bytes
padding_only s t handle f e = rw e

-- data that fits a frame fills its object
pub object_fills : (s : Settings) (handle : ℕ) (f : Frame) → length f.sdu ≤ longest_fd → length (object_bytes s handle f) ≡ chip.object_size
unfolding object_bytes big_endian
object_fills s handle f h = simp (length-append, length-replicate) (omega (arith, wire_within (length f.sdu) h))

-- the handle is read back as it was written
pub handle_back : (s : Settings) (handle : ℕ) (f : Frame) → handle < 2 ^ 16 → handle_in (object_bytes s handle f) ≡ handle
unfolding object_bytes big_endian number
handle_back s handle f h = omega arith
