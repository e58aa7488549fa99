-- Pairs of digits, as a slice has them as arrays.
use Rattle.std.proofs.Common.{◌≡◌, ℕ, zero, suc, ◌+◌, ◌*◌, ◌<◌, List, get_or, take, drop, refl, arith, ◌∙◌, add-zero}
use Rattle.std.specs.Simd.{first_chunks}
use Rattle.std.proofs.lemmas.List.{drop-drop, get_or-take, get_or-drop}
use Rattle.bench_words.specs.Reading.{pair, pair_at}

chunk_is : (k i : ℕ) (w d : List ℕ) → i < k → get_or (first_chunks 2 k w) i d ≡ take 2 (drop (2 * i) w)
chunk_is zero i w d h = absurd (omega arith)
chunk_is (suc k) zero w d h = refl
chunk_is (suc k) (suc i) w d h =
    let next : 2 + 2 * i ≡ 2 * suc i = omega arith in
    chunk_is k i (drop 2 w) d (omega arith) ∙ rw (drop-drop (2 * i) 2 w, next)

digit_is : (k i j : ℕ) (w d : List ℕ) → i < k → j < 2 → get_or (get_or (first_chunks 2 k w) i d) j 0 ≡ get_or w (2 * i + j) 0
digit_is k i j w d h l = rw (chunk_is k i w d h, get_or-take 2 (drop (2 * i) w) j 0 l, get_or-drop (2 * i) w j 0)

-- the two digits of a pair
pub pair_is : (k i : ℕ) (w d : List ℕ) → i < k → pair (get_or (get_or (first_chunks 2 k w) i d) 0 0) (get_or (get_or (first_chunks 2 k w) i d) 1 0) ≡ pair_at w i
pair_is k i w d h = rw (digit_is k i 0 w d h (omega arith), digit_is k i 1 w d h (omega arith), add-zero)
