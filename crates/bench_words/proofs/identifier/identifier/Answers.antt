-- `bench_words::identifier::identifier` meets its contract: so few digits spell a number that a word can say.
use Rattle.std.proofs.Common.{◌≡◌, ℕ, ◌^◌, ◌<◌, ◌≤◌, true, List, length, arith, sym, ◌∙◌}
use Rattle.std.proofs.Math.Nat.{lt_of_lt_of_le, pow-le-pow_right}
use Rattle.std.specs.Prelude.{is_some}
use borrow.Author.Tests.{le-ltb}
use Rattle.bench_words.specs.Reading.{value, sayable, largest, all_digits}
use Rattle.bench_words.proofs.Digits.{value_below}
use Rattle.bench_words.proofs.identifier.identifier.Goals as goal

said : (w : List ℕ) → all_digits 16 w ≡ true → length w ≤ 8 → is_some (sayable (value 16 w)) ≡ true
said w digits few =
    let small : value 16 w < 2 ^ 32 = lt_of_lt_of_le (value_below 16 w digits) (pow-le-pow_right (omega arith) few) in
    rw (le-ltb largest (value 16 w) (omega arith))

pub unwrap-requires : goal.unwrap-requires
unwrap-requires c =
    rw c.value.ensures
    (said c.unprefixed-digits.result.now (sym c.all_digits.ensures ∙ c.if-not-all_digits.false) c.if-digits-gt-DIGITS.false)
