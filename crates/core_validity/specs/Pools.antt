-- The lowest member of each pool among the objects passed, in a lent table, so that each object is compared with it at once.
use Rattle.std.specs.Prelude.{ℕ, ◌<◌, min, ◌≡◌, Bool, not, cond, ◌&&◌, List, length, get_or, set, eqb, ltb}
use Rattle.rules.specs.Repeat.{all_below, lowest_or}
use Rattle.rules.specs.Core.{Owner, owner_at, in_pool, pool_valid}

-- object h sends, and the table has a place for its pool
abbrev pub has_pool : List Owner → List ℕ → ℕ → Bool
has_pool os table h = not (owner_at os h).receiving && ltb (owner_at os h).pool (length table)

-- the lowest member of its pool: the one in the table, or h if that is lower; h where there is no such place
abbrev pub lowest_seen : List Owner → List ℕ → ℕ → ℕ
lowest_seen os table h = cond (has_pool os table h) (min (get_or table (owner_at os h).pool 0) h) h

-- the table once object h is passed
abbrev pub table_with : List Owner → List ℕ → ℕ → List ℕ
table_with os table h = cond (has_pool os table h) (set table (owner_at os h).pool (lowest_seen os table h)) table

-- a place for each pool number: the lowest member of that pool below h, and the number that stands for none where it has none there
pub record Tabled (os : List Owner) (none h : ℕ) (table : List ℕ) : Type 0 where
  pub lowest : (pool : ℕ) → pool < length table → get_or table pool 0 ≡ lowest_or h (in_pool os pool) none

-- the test of object h's pool, where there are so many places and this is the lowest member
abbrev pub pool_beside : ℕ → List Owner → ℕ → ℕ → Bool
pool_beside places os h lowest =
    cond (owner_at os h).receiving (eqb (owner_at os h).pool 0)
    (ltb (owner_at os h).pool places && eqb (owner_at os h).controller (owner_at os lowest).controller)

-- each of so many objects is its own pool, under its own number; 0 where it receives
abbrev pub own_pools : List Owner → ℕ → Bool
own_pools os count = all_below count (λ h. eqb (owner_at os h).pool (cond (owner_at os h).receiving 0 h))

-- the pool of each object in use
abbrev pub pools_valid : ℕ → List Owner → ℕ → Bool
pools_valid places os count = all_below count (pool_valid places os)
