-- What is said of a whole night on standard error, and how the words style ends. `play` reads these lines, too.
use Rattle.std.specs.Prelude.{ℕ, List}
use Rattle.bench_say.specs.Say.{said, five}

-- the night was stopped at a line, since a file could not be written or read
abbrev pub unwritten : ℕ → List ℕ
unwritten line = said "bench: standard output cannot be written; the night was stopped at line %0\n" (five line 0 0 0 0)

abbrev pub unread : ℕ → List ℕ
unread line = said "bench: standard input cannot be read; the night was stopped at line %0\n" (five line 0 0 0 0)

-- some lines were not understood
abbrev pub not_understood : ℕ → ℕ → ℕ → List ℕ
not_understood bad lines first = said "bench: %0 of %0 lines not understood, first at line %0\n" (five bad lines first 0 0)

-- lines read, and lines not understood
abbrev pub ended : ℕ → ℕ → List ℕ
ended lines bad = said "end %0 %0\n" (five lines bad 0 0 0)
