-- What a search answers, or the length where it finds nothing, is the definition's place.
use Prim.Native.Nat.{ℕ, ◌+◌, ◌-◌}
use mathlib.Core.Path.{◌≡◌, refl, ap, ◌∙◌}
use mathlib.Core.Bool.{Bool, true, false, not, cond}
use mathlib.Core.List.{List}
use native.Mathlib.Omega.{arith}
use lib.Dec.{ltb, eqb}
use lib.ListN.{length, take, drop, length-drop}
use lib.Seq.{take_all}
use borrow.Author.Tests.{ltb-false}
use Rattle.std.specs.Prelude.{Some, None, position}
use Rattle.std.specs.List.{position_or_len}
use Rattle.std.specs.Option.{unwrap_or}
use Rattle.std.proofs.lemmas.List.Sums.{prefix_len-le-length}
use Rattle.bench_lines.proofs.scan.find.Goals as goal

place_or_end : (p : ℕ → Bool) (xs : List ℕ) → unwrap_or (position p xs) (length xs) ≡ position_or_len p xs
place_or_end p xs = go (ltb (position_or_len p xs) (length xs)) refl
  where
    go : (b : Bool) → ltb (position_or_len p xs) (length xs) ≡ b → unwrap_or (cond b (Some (position_or_len p xs)) None) (length xs) ≡ position_or_len p xs
    go true e = refl
    go false e = omega (arith, ltb-false (position_or_len p xs) (length xs) e, prefix_len-le-length (λ b. not (p b)) xs)

pub returns-clause-value : goal.returns-clause-value
returns-clause-value c =
    let a = c.args in
    let rest = drop a.from a.bytes.now in
    let all : take (length a.bytes.now - a.from) rest ≡ rest = take_all (length a.bytes.now - a.from) rest (omega (arith, length-drop a.from a.bytes.now)) in
    ap (λ (n : ℕ). a.from + n) (rw (c.place.ensures, all) at c.unwrap_or.ensures ∙ place_or_end (λ b. eqb b a.byte) rest)
