-- Lists of bytes: what they spell, records one after the other, and lists that are the same.
use Prim.Native.Nat.{ℕ, zero, suc, ◌+◌, ◌*◌, ◌≤◌, ◌<◌, ◌^◌, ◌/◌, ◌%◌}
use mathlib.Core.Path.{◌≡◌, refl, ap, ap₂, sym, ◌∙◌}
use mathlib.Core.Bool.{true}
use mathlib.Core.List.{List, [], ◌∷◌, ◌++◌}
use mathlib.Core.Logic.{◌⊎◌, inl, inr, ⊎_elim}
use native.Mathlib.Omega.{arith}
use native.Mathlib.Nat.{mul-zero, mul-suc, mul_comm, mul_assoc, add-mul, mul-le-mul_left, mul-le-mul_right, pow-succ'}
use native.Mathlib.Nat.{div-eq_of_lt, mod-eq_of_lt, div-div-eq-div-mul, mul-add-div_right, mul-add-mod_self_right}
use lib.ListN.{length, take, drop, length-append, length-drop}
use lib.Dec.{eqb}
use lib.Seq.{take_all, take-append-le, drop-append-le, drop_at, take-add, drop-drop, get_or-drop}
use borrow.Author.Tests.{eqb-true, eqb-false}
use Rattle.rules.specs.Repeat.{concat_below}
use Rattle.rules.specs.Bytes.{big_endian, number, part, same_bytes}
use Rattle.laws.specs.WriterRule.{AllBytes}
use Rattle.laws.proofs.Tests.{left, right, clash, decide}
use Rattle.laws.proofs.Repeat.{last_or_below}

pub same_bytes_true : (xs ys : List ℕ) → same_bytes xs ys ≡ true → xs ≡ ys
unfolding same_bytes
same_bytes_true [] [] t = refl
same_bytes_true [] (y ∷ ys) t = clash t refl
same_bytes_true (x ∷ xs) [] t = clash t refl
same_bytes_true (x ∷ xs) (y ∷ ys) t =
    ap₂ ◌∷◌ (eqb-true x y (left (eqb x y) (same_bytes xs ys) t)) (same_bytes_true xs ys (right (eqb x y) (same_bytes xs ys) t))

-- a byte that is at most 1
pub kinds : (q : ℕ) → q ≤ 1 → (q ≡ 0) ⊎ (q ≡ 1)
kinds q l = ⊎_elim (λ e. inl (eqb-true q 0 e)) (λ e. inr (omega (arith, eqb-false q 0 e))) (decide (eqb q 0))

-- What lists of bytes are made of

cons_bytes : (x : ℕ) (xs : List ℕ) → x < 2 ^ 8 → AllBytes xs → AllBytes (x ∷ xs)
cons_bytes x xs l all zero = l
cons_bytes x xs l all (suc i) = all i

no_bytes : AllBytes []
no_bytes i = omega arith

-- a list whose elements are written out
abbrev pub Each : List ℕ → Type 0
Each [] = Unit {0}
Each (x ∷ xs) = (x < 2 ^ 8) × Each xs

pub each_bytes : (xs : List ℕ) → Each xs → AllBytes xs
each_bytes [] e = no_bytes
each_bytes (x ∷ xs) e = cons_bytes x xs e.0 (each_bytes xs e.1)

pub append_bytes : (xs ys : List ℕ) → AllBytes xs → AllBytes ys → AllBytes (xs ++ ys)
append_bytes [] ys a b = b
append_bytes (x ∷ xs) ys a b = cons_bytes x (xs ++ ys) (a 0) (append_bytes xs ys (λ i. a (suc i)) b)

pub take_bytes : (n : ℕ) (xs : List ℕ) → AllBytes xs → AllBytes (take n xs)
take_bytes zero xs a = no_bytes
take_bytes (suc n) [] a = no_bytes
take_bytes (suc n) (x ∷ xs) a = cons_bytes x (take n xs) (a 0) (take_bytes n xs (λ i. a (suc i)))

pub part_bytes : (at n : ℕ) (xs : List ℕ) → AllBytes xs → AllBytes (part at n xs)
part_bytes at n xs a = take_bytes n (drop at xs) (λ i. rw (get_or-drop at xs i 0) (a (at + i)))

pub big_endian_bytes : (k x : ℕ) → AllBytes (big_endian k x)
unfolding big_endian
big_endian_bytes zero x = no_bytes
big_endian_bytes (suc k) x = cons_bytes (x / 256 ^ k % 256) (big_endian k x) (omega arith) (big_endian_bytes k x)

pub concat_bytes : (n : ℕ) (f : ℕ → List ℕ) → ((i : ℕ) → i < n → AllBytes (f i)) → AllBytes (concat_below n f)
unfolding concat_below
concat_bytes zero f a = no_bytes
concat_bytes (suc n) f a = append_bytes (concat_below n f) (f n) (concat_bytes n f (λ i l. a i (omega arith))) (a n (omega arith))

-- What bytes spell

pub big_endian_length : (k x : ℕ) → length (big_endian k x) ≡ k
unfolding big_endian
big_endian_length zero x = refl
big_endian_length (suc k) x = ap suc (big_endian_length k x)

positive : (k : ℕ) → 0 < 256 ^ k
positive zero = omega arith
positive (suc k) = rw pow-succ' (omega (arith, positive k))

-- the bytes of x spell it, but for what lies above them
spells_low : (k x : ℕ) → x / 256 ^ k * 256 ^ k + number (big_endian k x) ≡ x
unfolding big_endian number
spells_low zero x = omega arith
spells_low (suc k) x =
    let p = 256 ^ k in
    let q = x / p in
    let above : x / 256 ^ suc k * 256 ^ suc k ≡ q / 256 * 256 * p = rw (pow-succ', div-div-eq-div-mul x p 256, mul_comm p 256, mul_assoc) in
    let joined : q / 256 * 256 * p + q % 256 * p ≡ q * p = sym (add-mul (q / 256 * 256) (q % 256) p) ∙ ap (λ (m : ℕ). m * p) (omega arith) in
    rw (big_endian_length k x, above) (omega (arith, joined, spells_low k x))

pub spells : (k x : ℕ) → x < 256 ^ k → number (big_endian k x) ≡ x
spells k x l = let low = rw (div-eq_of_lt l) at (spells_low k x) in omega arith

pub number_below : (bs : List ℕ) → AllBytes bs → number bs < 256 ^ length bs
unfolding number
number_below [] a = omega arith
number_below (b ∷ bs) a =
    let p = 256 ^ length bs in
    let room : (b + 1) * p ≤ 256 * p = mul-le-mul_right p (omega (arith, a 0)) in
    rw pow-succ' (omega (arith, add-mul b 1 p, number_below bs (λ i. a (suc i))))

number_alone : (xs ys : List ℕ) → length xs ≡ length ys → AllBytes xs → AllBytes ys → number xs ≡ number ys → xs ≡ ys
unfolding number
number_alone [] [] l a b e = refl
number_alone [] (y ∷ ys) l a b e = absurd (omega arith)
number_alone (x ∷ xs) [] l a b e = absurd (omega arith)
number_alone (x ∷ xs) (y ∷ ys) l a b e =
    let p = 256 ^ length ys in
    let same : length xs ≡ length ys = omega arith in
    let low : number xs < p = rw same at (number_below xs (λ i. a (suc i))) in
    let low' : number ys < p = number_below ys (λ i. b (suc i)) in
    let sums : x * p + number xs ≡ y * p + number ys = rw same at e in
    ap₂ ◌∷◌
    (digit p x (number xs) low (positive (length ys)) ∙ ap (λ (n : ℕ). n / p) sums ∙ sym (digit p y (number ys) low' (positive (length ys))))
    (number_alone xs ys same (λ i. a (suc i)) (λ i. b (suc i)) (rest p x (number xs) low ∙ ap (λ (n : ℕ). n % p) sums ∙ sym (rest p y (number ys) low')))
  where
    digit : (p x n : ℕ) → n < p → 0 < p → x ≡ (x * p + n) / p
    digit p x n l pos = rw (mul-add-div_right pos x n, div-eq_of_lt l) (omega arith)

    rest : (p x n : ℕ) → n < p → n ≡ (x * p + n) % p
    rest p x n l = rw (mul-add-mod_self_right x p n, mod-eq_of_lt l)

-- and bytes are those of the number that they spell
pub spelled : (bs : List ℕ) → AllBytes bs → big_endian (length bs) (number bs) ≡ bs
spelled bs a =
    number_alone (big_endian (length bs) (number bs)) bs (big_endian_length (length bs) (number bs)) (big_endian_bytes (length bs) (number bs)) a
    (spells (length bs) (number bs) (number_below bs a))

-- Records of k elements, one after the other

module _ {A : Type 0} (k : ℕ) where
  pub concat-length : (n : ℕ) (f : ℕ → List A) → ((i : ℕ) → i < n → length (f i) ≡ k) → length (concat_below n f) ≡ k * n
  unfolding concat_below
  concat-length zero f sized = omega arith
  concat-length (suc n) f sized =
      simp (length-append, concat-length n f (λ i l. sized i (omega arith)), sized n (omega arith)) (rw mul-suc (omega arith))

  pub concat_part : (n : ℕ) (f : ℕ → List A) → ((i : ℕ) → i < n → length (f i) ≡ k) → (h : ℕ) → h < n → part (k * h) k (concat_below n f) ≡ f h
  unfolding concat_below
  concat_part zero f sized h l = absurd (omega arith)
  concat_part (suc n) f sized h l = ⊎_elim last (λ b. before b (concat_part n f shorter h b)) (last_or_below n h l)
    where
      shorter : (i : ℕ) → i < n → length (f i) ≡ k
      shorter i b = sized i (omega arith)

      last : h ≡ n → part (k * h) k (concat_below n f ++ f n) ≡ f h
      last e =
          rw (e, drop_at (concat_below n f) (f n) (k * n) (concat-length n f shorter))
          (take_all k (f n) (omega (arith, sized n (omega arith))))

      before : h < n → part (k * h) k (concat_below n f) ≡ f h → part (k * h) k (concat_below n f ++ f n) ≡ f h
      before b rest =
          let inside : k * h + k ≤ length (concat_below n f) = rw (concat-length n f shorter, ← mul-suc k h) (mul-le-mul_left k b) in
          rw (
            drop-append-le (k * h) (concat_below n f) (f n) (omega arith),
            take-append-le k (drop (k * h) (concat_below n f)) (f n) (simp length-drop (omega arith)),
          )
          rest

  -- the records that a list is made of
  pub concat_parts : (at n : ℕ) (l : List A) → concat_below n (λ h. part (at + k * h) k l) ≡ part at (k * n) l
  unfolding concat_below
  concat_parts at zero l = rw mul-zero
  concat_parts at (suc n) l = rw (concat_parts at n l, mul-suc k n, take-add (k * n) k (drop at l), drop-drop)

pub concat_ext : {A : Type 0} (n : ℕ) (f g : ℕ → List A) → ((i : ℕ) → i < n → f i ≡ g i) → concat_below n f ≡ concat_below n g
unfolding concat_below
concat_ext zero f g same = refl
concat_ext (suc n) f g same = ap₂ ◌++◌ (concat_ext n f g (λ i l. same i (omega arith))) (same n (omega arith))
