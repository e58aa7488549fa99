-- Why a write does not find its pool, or no room in it.
use Rattle.std.specs.Prelude.{ℕ, List}
use Rattle.bench_say.specs.Say.{said, five}

-- 2: another member of a pool than its lowest
abbrev pub not_lowest : ℕ → ℕ → ℕ → List ℕ
not_lowest object pool lowest = said "object %0 is in pool %0, which object %0 names" (five object pool lowest 0 0)

-- 36: no member of a pool is free
abbrev pub none_free : ℕ → ℕ → ℕ → List ℕ
none_free pool object line = said "no object of pool %0 is free; object %0 holds the frame of line %0" (five pool object line 0 0)
