-- A text filled byte by byte: what is written, and what is to come.
use Prim.Native.Nat.{ℕ}
use Prim.{⊥}
use mathlib.Core.Path.{◌≡◌, refl, ◌∙◌}
use mathlib.Core.List.{List, [], ◌∷◌, ◌++◌, append-nil, append_assoc}
use native.Mathlib.Omega.{arith}
use lib.ListN.{length, drop, get_or}
use borrow.Author.Tests.{eq-eqb, ne_eqb}
use Rattle.bench_text.specs.Put.{Put}
use Rattle.bench_text.proofs.Writing.{then, nothing}
use Rattle.bench_say.specs.Form.{formed}
use Rattle.bench_say.specs.Say.{filled}

pub record Saying (at : ℕ) (said before after : List ℕ) (end : ℕ) (rest left : List ℕ) : Type 0 where
  pub done : List ℕ
  pub put : Put at done before after end
  pub to_come : said ≡ done ++ filled rest left

-- a byte that is no %, no byte, and a % with nothing behind it
plain : (b : ℕ) (rest left : List ℕ) → (b ≡ 37 → ⊥) → filled (b ∷ rest) left ≡ b ∷ filled rest left
unfolding filled
plain b [] left other = rw (ne_eqb b 37 other)
plain b (c ∷ rest) left other = rw (ne_eqb b 37 other)

nothing_left : (rest left : List ℕ) → length rest ≡ 0 → filled rest left ≡ []
unfolding filled
nothing_left [] left last = refl
nothing_left (b ∷ rest) left last = absurd (omega arith)

last_percent : (b : ℕ) (behind left : List ℕ) → b ≡ 37 → length behind ≡ 0 → filled (b ∷ behind) left ≡ []
unfolding filled
last_percent b [] left percent last = rw (eq-eqb b 37 percent)
last_percent b (c ∷ behind) left percent last = absurd (omega arith)

module _ (at : ℕ) (said before : List ℕ) where
  pub begun : (text numbers : List ℕ) → said ≡ filled text numbers → Saying at said before before at text numbers
  begun text numbers e = record { done = []; put = nothing at before; to_come = e }

  module _ {mid : List ℕ} {m : ℕ} {rest left : List ℕ} (s : Saying at said before mid m rest left) where
    pub on_plain : {after : List ℕ} {r b : ℕ} {behind : List ℕ} → rest ≡ b ∷ behind → (b ≡ 37 → ⊥) → Put m (b ∷ []) mid after r → Saying at said before after r behind left
    on_plain {after} {r} {b} {behind} e other p =
        record {
          done = s.done ++ (b ∷ []);
          put = then at m r s.done (b ∷ []) before s.put p;
          to_come = s.to_come ∙ rw (e, plain b behind left other, append_assoc);
        }

    pub on_hole : {after : List ℕ} {r b sign n : ℕ} {behind more : List ℕ} → rest ≡ b ∷ (sign ∷ behind) → b ≡ 37 → n ≡ get_or left 0 0 → more ≡ drop 1 left
        → Put m (formed sign n) mid after r → Saying at said before after r behind more
    unfolding filled
    on_hole {after} {r} {b} {sign} {n} {behind} {more} e percent number rest_is p =
        record {
          done = s.done ++ formed sign n;
          put = then at m r s.done (formed sign n) before s.put p;
          to_come = s.to_come ∙ rw (e, eq-eqb b 37 percent, number, rest_is, append_assoc);
        }

    pub on_last : {b : ℕ} {behind : List ℕ} → rest ≡ b ∷ behind → b ≡ 37 → length behind ≡ 0 → Saying at said before mid m behind left
    on_last {b} {behind} e percent last =
        record { done = s.done; put = s.put; to_come = s.to_come ∙ rw (e, last_percent b behind left percent last, nothing_left behind left last) }

    pub ended : length rest ≡ 0 → Put at said before mid m
    ended last = rw (s.to_come, nothing_left rest left last, append-nil) s.put
