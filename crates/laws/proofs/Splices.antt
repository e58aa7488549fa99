-- Laws of a run of elements written over a list, and of a part read from it.
use Prim.Native.Nat.{ℕ, zero, suc, ◌+◌, ◌-◌, ◌≤◌, ◌<◌}
use mathlib.Core.Path.{◌≡◌, refl, sym, ◌∙◌}
use mathlib.Core.List.{List, [], ◌∷◌, ◌++◌, append_assoc}
use native.Mathlib.Omega.{arith}
use native.Mathlib.Nat.{add-zero, add_assoc}
use native.Mathlib.Numerals.{add-one}
use lib.ListN.{length, take, drop, set, get_or, replicate, length-append, length-take, length-drop, take-append-drop, length-replicate, replicate-append-replicate}
use lib.Seq.{take_at, drop_at, set_split, drop-drop, take-take, take-suc, take-append_seam, get_or-take, get_or-drop, length-take-le, sets, sets-eq}
use Rattle.rules.specs.Repeat.{list_below}
use Rattle.rules.specs.Bytes.{splice, part, number}

module _ {A : Type 0} where
  -- a part that ends within the first m elements
  part_take : (a n m : ℕ) (l : List A) → a + n ≤ m → part a n (take m l) ≡ part a n l
  part_take zero n m l h = take-take n m l (omega arith)
  part_take (suc a) n zero l h = absurd (omega arith)
  part_take (suc a) n (suc m) [] h = refl
  part_take (suc a) n (suc m) (x ∷ l) h = part_take a n m l (omega arith)

  pub splice_is : (at : ℕ) (xs l : List A) → splice at xs l ≡ take at l ++ (xs ++ drop (at + length xs) l)
  unfolding splice
  splice_is at xs l = refl

  pub splice_nil : (at : ℕ) (l : List A) → splice at [] l ≡ l
  splice_nil at l = rw (splice_is, add-zero) (take-append-drop at l)

  pub length_splice : (at : ℕ) (xs l : List A) → at + length xs ≤ length l → length (splice at xs l) ≡ length l
  length_splice at xs l h = simp (splice_is, length-append, length-take, length-drop) (omega arith)

  -- the list with a run in it: up to the run's end, and behind it
  module _ (at : ℕ) (xs l : List A) (h : at + length xs ≤ length l) where
    head_length : length (take at l ++ xs) ≡ at + length xs
    head_length = simp (length-append, length-take) (omega arith)

    seam : splice at xs l ≡ take at l ++ xs ++ drop (at + length xs) l
    seam = rw splice_is (sym (append_assoc (take at l) xs (drop (at + length xs) l)))

    pub take_splice : take (at + length xs) (splice at xs l) ≡ take at l ++ xs
    take_splice = rw seam (take_at (take at l ++ xs) (drop (at + length xs) l) (at + length xs) head_length)

    pub drop_splice : drop (at + length xs) (splice at xs l) ≡ drop (at + length xs) l
    drop_splice = rw seam (drop_at (take at l ++ xs) (drop (at + length xs) l) (at + length xs) head_length)

    pub drop_behind : (n : ℕ) → drop (at + length xs + n) (splice at xs l) ≡ drop (at + length xs + n) l
    drop_behind n = rw (← drop-drop n (at + length xs) (splice at xs l), drop_splice, drop-drop)

    -- the run is read back, and whatever lies behind it or before it is as it was
    pub part_splice : part at (length xs) (splice at xs l) ≡ xs
    part_splice =
        let before : drop at (splice at xs l) ≡ xs ++ drop (at + length xs) l =
        rw splice_is (drop_at (take at l) (xs ++ drop (at + length xs) l) at (length-take-le at l (omega arith))) in
        rw before (take-append_seam xs (drop (at + length xs) l))

    pub part_behind : (b n : ℕ) → at + length xs ≤ b → part b n (splice at xs l) ≡ part b n l
    part_behind b n k =
        let e : b ≡ at + length xs + (b - (at + length xs)) = omega arith in
        rw (e, drop_behind (b - (at + length xs)))

    pub part_before : (b n : ℕ) → b + n ≤ at → part b n (splice at xs l) ≡ part b n l
    part_before b n k =
        let before : take at (splice at xs l) ≡ take at l =
        rw splice_is (take_at (take at l) (xs ++ drop (at + length xs) l) at (length-take-le at l (omega arith))) in
        sym (part_take b n at (splice at xs l) k) ∙ rw before (part_take b n at l k)

    -- two runs, the second right behind the first, are one run
    pub splice_splice : (ys : List A) → splice (at + length xs) ys (splice at xs l) ≡ splice at (xs ++ ys) l
    splice_splice ys =
        rw (splice_is (at + length xs) ys, take_splice, drop_behind, splice_is at (xs ++ ys)) (simp (append_assoc, length-append, add_assoc))

  -- the same, from what two calls say of their memory: the second wrote at p, the end of what the first wrote
  pub splice_then : (at p : ℕ) (xs ys l : List A) {l₁ l₂ : List A} → l₁ ≡ splice at xs l → l₂ ≡ splice p ys l₁ → p ≡ at + length xs → p ≤ length l → l₂ ≡ splice at (xs ++ ys) l
  splice_then at p xs ys l e₁ e₂ q h = rw (e₂, e₁, q) (splice_splice at xs l (omega arith) ys)

  -- a store is a run of one
  pub set_splice : (l : List A) (i : ℕ) (a : A) → i < length l → set l i a ≡ splice i (a ∷ []) l
  set_splice l i a h = rw (splice_is, add-one) (set_split l i a h)

  -- a store right behind a run of i elements makes it longer
  pub splice_more : (at i : ℕ) (xs l : List A) (a : A) → length xs ≡ i → at + i < length l → set (splice at xs l) (at + i) a ≡ splice at (xs ++ (a ∷ [])) l
  splice_more at i xs l a e h =
      let fits : at + length xs < length l = omega arith in
      rw (← e)
      (set_splice (splice at xs l) (at + length xs) a (rw (length_splice at xs l (omega arith)) fits)
      ∙ splice_splice at xs l (omega arith) (a ∷ []))

  -- a turn of a loop that copies, and of one that fills
  pub copy_more : (at i : ℕ) (xs l : List A) (d : A) → i < length xs → at + i < length l → set (splice at (take i xs) l) (at + i) (get_or xs i d) ≡ splice at (take (i + 1) xs) l
  copy_more at i xs l d h k = splice_more at i (take i xs) l (get_or xs i d) (length-take-le i xs (omega arith)) k ∙ rw (add-one, take-suc xs i d h)

  pub fill_more : (at i : ℕ) (l : List A) (a : A) → at + i < length l → set (splice at (replicate i a) l) (at + i) a ≡ splice at (replicate (i + 1) a) l
  fill_more at i l a k = splice_more at i (replicate i a) l a (length-replicate i a) k ∙ rw (← replicate-append-replicate i 1 a)

  -- straight-line stores
  pub sets_splice : (vs l : List A) (i : ℕ) → i + length vs ≤ length l → sets l i vs ≡ splice i vs l
  sets_splice vs l i h = sets-eq vs l i h ∙ append_assoc (take i l) vs (drop (i + length vs) l) ∙ sym (splice_is i vs l)

  -- n elements from position at, read one by one
  read_all : (n : ℕ) (l : List A) (d : A) → n ≤ length l → list_below n (λ i. get_or l i d) ≡ take n l
  unfolding list_below
  read_all zero l d h = refl
  read_all (suc n) l d h = rw (read_all n l d (omega arith), take-suc l n d (omega arith))

  pub read_part : (at n : ℕ) (l : List A) (d : A) → at + n ≤ length l → list_below n (λ i. get_or l (at + i) d) ≡ part at n l
  read_part at n l d h = simp get_or-drop at (read_all n (drop at l) d (simp length-drop (omega arith)))

  -- a part of a part
  pub part_part : (a n b m : ℕ) (l : List A) → a + n ≤ m → part a n (part b m l) ≡ part (b + a) n l
  part_part a n b m l h = part_take a n m (drop b l) h ∙ rw drop-drop

  pub get_d_part : (i b m : ℕ) (l : List A) (d : A) → i < m → get_or (part b m l) i d ≡ get_or l (b + i) d
  get_d_part i b m l d h = get_or-take m (drop b l) i d h ∙ get_or-drop b l i d

-- one byte spells itself; past the end there is none, which spells 0
pub number_one : (at : ℕ) (l : List ℕ) → number (part at 1 l) ≡ get_or l at 0
unfolding number
number_one zero [] = refl
number_one zero (x ∷ l) = omega arith
number_one (suc at) [] = refl
number_one (suc at) (x ∷ l) = number_one at l
