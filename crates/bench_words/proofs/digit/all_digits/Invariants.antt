-- `bench_words::digit::all_digits` meets its contract. The loop's invariant: `ok` says that there are bytes and that each one passed is a digit.
use Rattle.std.specs.Prelude.{◌≡◌, ◌&&◌, not, eqb, ltb, length, take}
use Rattle.std.specs.List.{list_all}
use Rattle.bench_words.specs.Reading.{digit}
use Rattle.bench_words.proofs.digit.all_digits.Given as goal

abbrev pub invariant-loop-b : goal.invariant-loop-b
invariant-loop-b l = l.ok ≡ (not (eqb (length l.word) 0) && list_all (λ b. ltb (digit b) l.base) (take l.b-index l.word))
