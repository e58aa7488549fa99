-- How many words a line has.
use Rattle.std.specs.Prelude.{ℕ, ◌+◌, cond, List, Result, Ok, Err}
use Rattle.bench_words.specs.Split.{is_missing}
use Rattle.bench_words.specs.declared.reading.Trouble.{Trouble}
use Rattle.bench_words.specs.declared.reading.Trouble.TheVariants.{WordMissing, WordTooMany}
use Rattle.bench_script.specs.declared.name.Arguments.{Arguments}
use Rattle.bench_script.specs.declared.name.Arguments.TheVariants.{Exactly, AtLeast}

-- a line has a word n
abbrev pub reaching : ℕ → List ℕ → Result (Unit {0}) Trouble
reaching n line = cond (is_missing n line) (Err WordMissing) (Ok tt)

-- a line has a word n, and no further one
abbrev pub ending_at : ℕ → List ℕ → Result (Unit {0}) Trouble
ending_at n line = cond (is_missing n line) (Err WordMissing) (cond (is_missing (n + 1) line) (Ok tt) (Err WordTooMany))

-- as many words follow a line's first one as its command takes
abbrev pub counted : Arguments → List ℕ → Result (Unit {0}) Trouble
counted (AtLeast n) line = reaching n line
counted (Exactly n) line = ending_at n line
