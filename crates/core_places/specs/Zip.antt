-- Laws of lists side by side: how long they are, what stands at a number, a place that is changed, and places that are all alike.
use Prim.Native.Nat.{ℕ, zero, suc}
use mathlib.Core.Path.{◌≡◌, refl, ap, sym, ◌∙◌}
use mathlib.Core.List.{List, [], ◌∷◌}
use native.Mathlib.Omega.{arith}
use lib.ListN.{length, get_or, set, replicate}
use Rattle.core_places.specs.Arrays.{zip_with, zip_with_3, zip_with_4, Alike}

module _ {A B C : Type 0} (f : A → B → C) where
  pub zip_length : (xs : List A) (ys : List B) → length ys ≡ length xs → length (zip_with f xs ys) ≡ length xs
  unfolding zip_with
  zip_length [] ys e = refl
  zip_length (a ∷ xs) [] e = e
  zip_length (a ∷ xs) (b ∷ ys) e = ap suc (zip_length xs ys (let e' : suc (length ys) ≡ suc (length xs) = e in omega arith))

  pub zip-set : (xs : List A) (ys : List B) (i : ℕ) (a : A) (b : B) → zip_with f (set xs i a) (set ys i b) ≡ set (zip_with f xs ys) i (f a b)
  unfolding zip_with
  zip-set [] ys i a b = refl
  zip-set (x ∷ xs) [] zero a b = refl
  zip-set (x ∷ xs) [] (suc i) a b = refl
  zip-set (x ∷ xs) (y ∷ ys) zero a b = refl
  zip-set (x ∷ xs) (y ∷ ys) (suc i) a b = ap (λ (l : List C). f x y ∷ l) (zip-set xs ys i a b)

  pub zip_at : (xs : List A) (ys : List B) (i : ℕ) (a : A) (b : B) → length ys ≡ length xs → get_or (zip_with f xs ys) i (f a b) ≡ f (get_or xs i a) (get_or ys i b)
  unfolding zip_with
  zip_at [] [] i a b e = refl
  zip_at [] (y ∷ ys) i a b e = absurd (let e' : suc (length ys) ≡ 0 = e in omega arith)
  zip_at (x ∷ xs) [] i a b e = absurd (let e' : 0 ≡ suc (length xs) = e in omega arith)
  zip_at (x ∷ xs) (y ∷ ys) zero a b e = refl
  zip_at (x ∷ xs) (y ∷ ys) (suc i) a b e = zip_at xs ys i a b (let e' : suc (length ys) ≡ suc (length xs) = e in omega arith)

module _ {A B C D : Type 0} (f : A → B → C → D) where
  pub zip_3_length : (xs : List A) (ys : List B) (zs : List C) → Alike xs ys zs → length (zip_with_3 f xs ys zs) ≡ length xs
  zip_3_length xs ys zs alike =
      let inner = zip_length f xs ys alike.second in
      zip_length (λ g c. g c) (zip_with f xs ys) zs (alike.third ∙ sym inner) ∙ inner

  pub zip_3_set : (xs : List A) (ys : List B) (zs : List C) (i : ℕ) (a : A) (b : B) (c : C) → zip_with_3 f (set xs i a) (set ys i b) (set zs i c) ≡ set (zip_with_3 f xs ys zs) i (f a b c)
  zip_3_set xs ys zs i a b c = rw (zip-set f xs ys i a b) (zip-set (λ g c. g c) (zip_with f xs ys) zs i (f a b) c)

  pub zip_3_at : (xs : List A) (ys : List B) (zs : List C) (i : ℕ) (a : A) (b : B) (c : C) → Alike xs ys zs → get_or (zip_with_3 f xs ys zs) i (f a b c) ≡ f (get_or xs i a) (get_or ys i b) (get_or zs i c)
  zip_3_at xs ys zs i a b c alike =
      zip_at (λ g c. g c) (zip_with f xs ys) zs i (f a b) c (alike.third ∙ sym (zip_length f xs ys alike.second))
      ∙ ap (λ (g : C → D). g (get_or zs i c)) (zip_at f xs ys i a b alike.second)

  pub zip_3_replicate : (n : ℕ) (a : A) (b : B) (c : C) → zip_with_3 f (replicate n a) (replicate n b) (replicate n c) ≡ replicate n (f a b c)
  unfolding zip_with
  zip_3_replicate zero a b c = refl
  zip_3_replicate (suc n) a b c = ap (λ (l : List D). f a b c ∷ l) (zip_3_replicate n a b c)

module _ {A B C D E : Type 0} (f : A → B → C → D → E) where
  pub zip_4_length : (xs : List A) (ys : List B) (zs : List C) (ws : List D) → Alike xs ys zs → length ws ≡ length xs → length (zip_with_4 f xs ys zs ws) ≡ length xs
  zip_4_length xs ys zs ws alike fourth =
      let inner = zip_3_length f xs ys zs alike in
      zip_length (λ g w. g w) (zip_with_3 f xs ys zs) ws (fourth ∙ sym inner) ∙ inner

  pub zip_4_set : (xs : List A) (ys : List B) (zs : List C) (ws : List D) (i : ℕ) (x : A) (y : B) (z : C) (w : D)
      → zip_with_4 f (set xs i x) (set ys i y) (set zs i z) (set ws i w) ≡ set (zip_with_4 f xs ys zs ws) i (f x y z w)
  zip_4_set xs ys zs ws i x y z w = rw (zip_3_set f xs ys zs i x y z) (zip-set (λ g w. g w) (zip_with_3 f xs ys zs) ws i (f x y z) w)

  pub zip_4_at : (xs : List A) (ys : List B) (zs : List C) (ws : List D) (i : ℕ) (x : A) (y : B) (z : C) (w : D) → Alike xs ys zs → length ws ≡ length xs
      → get_or (zip_with_4 f xs ys zs ws) i (f x y z w) ≡ f (get_or xs i x) (get_or ys i y) (get_or zs i z) (get_or ws i w)
  zip_4_at xs ys zs ws i x y z w alike fourth =
      zip_at (λ g w. g w) (zip_with_3 f xs ys zs) ws i (f x y z) w (fourth ∙ sym (zip_3_length f xs ys zs alike))
      ∙ ap (λ (g : D → E). g (get_or ws i w)) (zip_3_at f xs ys zs i x y z alike)

  pub zip_4_replicate : (n : ℕ) (x : A) (y : B) (z : C) (w : D) → zip_with_4 f (replicate n x) (replicate n y) (replicate n z) (replicate n w) ≡ replicate n (f x y z w)
  unfolding zip_with
  zip_4_replicate zero x y z w = refl
  zip_4_replicate (suc n) x y z w = ap (λ (l : List E). f x y z w ∷ l) (zip_4_replicate n x y z w)
