-- Laws of a loop that reads one word of bytes after the other. It is at a position of the text, behind so many bytes, with so many words
-- left to read at most.
use Prim.Native.Nat.{ℕ, zero, suc, ◌+◌, ◌*◌, ◌-◌, ◌/◌, ◌≤◌, ◌<◌}
use native.Mathlib.Omega.{arith}
use mathlib.Core.Path.{◌≡◌, refl, sym, ap, ◌∙◌}
use mathlib.Core.Bool.{Bool, true, false}
use mathlib.Core.List.{List, [], ◌++◌}
use lib.ListN.{length, take, drop, length-take, length-drop}
use lib.Seq.{length-take-le}
use lib.Dec.{eqb}
use Rattle.rules.specs.Bytes.{splice}
use Rattle.laws.proofs.Splices.{splice_nil, splice_then, take_splice, length_splice}
use Rattle.laws.proofs.Repeat.{length-list_below}
use Rattle.std.specs.List.{prefix_len}
use Rattle.std.proofs.lemmas.List.Sums.{prefix_len-le-length}
use Rattle.std.proofs.lemmas.Bool.Decides.{nat_tests}
use Rattle.std.specs.Prelude.{Result, Ok, Err}
use Rattle.bench_words.specs.Split.{is_blank, in_word, next_word, spanned}
use Rattle.bench_words.specs.Reading.{hex_pairs, pair_at, byte_count_of, bytes_from, BytesRead}
use Rattle.bench_words.specs.declared.split.Span.{Span}
use Rattle.bench_words.specs.declared.reading.Trouble.{Trouble}

-- the run at a position ends within the text
run_within : (p : ℕ → Bool) (text : List ℕ) (at : ℕ) → at ≤ length text → at + prefix_len p (drop at text) ≤ length text
run_within p text at h = omega (arith, prefix_len-le-length p (drop at text), length-drop at text)

pub word_within : (text : List ℕ) (at : ℕ) → at ≤ length text → (next_word text at).end ≤ length text
word_within text at h =
    run_within in_word text (next_word text at).start (run_within is_blank text at h)

-- a word is no longer than what the position passes
pub word_short : (text : List ℕ) (at : ℕ) → at + length (spanned (next_word text at) text) ≤ (next_word text at).end
word_short text at =
    let s = next_word text at in
    omega (arith, length-take (s.end - s.start) (drop s.start text))

pub length_pairs : (w : List ℕ) → length (hex_pairs w) ≡ length w / 2
unfolding hex_pairs
length_pairs w = length-list_below (length w / 2) (pair_at w)

-- a word that can be read says a byte for each two digits
pub counted : (w : List ℕ) {n : ℕ} → Ok n ≡ byte_count_of w → n ≡ length w / 2
unfolding byte_count_of
counted w e = grind (arith, nat_tests)

module _ (text : List ℕ) (out₀ : List ℕ) where
  abbrev whole : Result ℕ Trouble × List ℕ
  whole = bytes_from (length text) text 0 []

  -- the bytes said so far stand at the buffer's start, and with what follows they are the whole
  pub record Going (out : List ℕ) (at count left : ℕ) : Type 0 where
    pub count_low : 2 * count ≤ at
    pub at_low : at ≤ length text
    pub same_length : length out ≡ length out₀
    pub so_far : out ≡ splice 0 (take count out) out₀
    pub rest : bytes_from left text at (take count out) ≡ whole

  pub begun : Going out₀ 0 0 (length text - 0)
  begun =
      let all : length text - 0 ≡ length text = omega arith in
      record {
        count_low = omega arith;
        at_low = omega arith;
        same_length = refl;
        so_far = sym (splice_nil 0 out₀);
        rest = rw all;
      }

  module _ (roomy : length text ≤ 2 * length out₀) {out : List ℕ} {at count left : ℕ} (going : Going out at count left) where
    abbrev w : List ℕ
    w = spanned (next_word text at) text

    said_length : length (take count out) ≡ count
    said_length = length-take-le count out (omega (arith, going.count_low, going.at_low, going.same_length))

    -- nothing more is read, for whatever reason
    stopped : {r : Result ℕ Trouble} → bytes_from left text at (take count out) ≡ (r, take count out) → BytesRead whole out₀ out r
    stopped {r} e =
        let said : (r, take count out) ≡ whole = sym e ∙ going.rest in
        record { count_is = ap (λ (p : Result ℕ Trouble × List ℕ). p.0) said; bytes_are = going.so_far ∙ ap (λ (p : Result ℕ Trouble × List ℕ). splice 0 p.1 out₀) said }

    -- no word is left to read
    pub over : left ≡ 0 → BytesRead whole out₀ out (Ok count)
    unfolding bytes_from
    over none = stopped (rw (none, said_length))

    -- the word that is read, by where it stands
    module _ {s : Span} {v : List ℕ} (stands : s ≡ next_word text at) (is : v ≡ spanned s text) where
      word_is : v ≡ w
      word_is = is ∙ ap (λ (s : Span). spanned s text) stands

      -- its bytes have room behind those said so far
      pub room : 2 * count + length v ≤ length text
      room = rw word_is (omega (arith, going.count_low, word_short text at, word_within text at going.at_low))

      -- there is none
      pub ended : 0 < left → eqb (length v) 0 ≡ true → BytesRead whole out₀ out (Ok count)
      unfolding bytes_from
      ended some none =
          let more : left ≡ suc (left - 1) = omega arith in
          stopped (rw (more, ← word_is, none, said_length))

      -- it can't be read
      pub troubled : 0 < left → eqb (length v) 0 ≡ false → {t : Trouble} → Err t ≡ byte_count_of v → BytesRead whole out₀ out (Err t)
      unfolding bytes_from
      troubled some there bad =
          let more : left ≡ suc (left - 1) = omega arith in
          stopped (rw (more, ← word_is, there, ← bad))

      -- its bytes are put behind the others
      pub onward : 0 < left → eqb (length v) 0 ≡ false → {n : ℕ} → Ok n ≡ byte_count_of v → {out₁ : List ℕ} → out₁ ≡ splice count (hex_pairs v) out
          → Going out₁ s.end (count + n) (left - 1)
      unfolding bytes_from
      onward some there {n} good {out₁} put =
          let bs = hex_pairs v in
          let long = length_pairs v in
          let fits : count + length bs ≤ length out = omega (arith, room, roomy, long, going.same_length) in
          let said : take (count + length v / 2) out₁ ≡ take count out ++ bs = rw (← long, put) (take_splice count bs out fits) in
          let short : 2 * (count + length v / 2) ≤ s.end = rw (word_is, stands) (omega (arith, going.count_low, word_short text at)) in
          rw (counted v good)
          record {
            count_low = short;
            at_low = rw stands (word_within text at going.at_low);
            same_length = rw put (length_splice count bs out fits) ∙ going.same_length;
            so_far = rw said (splice_then 0 count (take count out) bs out₀ going.so_far put (omega (arith, said_length)) (omega (arith, going.same_length)));
            rest = rw said (sym (turn left some) ∙ going.rest);
          }
        where
          turn : (left : ℕ) → 0 < left → bytes_from left text at (take count out) ≡ bytes_from (left - 1) text s.end (take count out ++ hex_pairs v)
          turn zero h = absurd (omega arith)
          turn (suc words) h = let same : suc words - 1 ≡ words = omega arith in rw (← word_is, there, ← good, same, stands)
