-- The bytes of a configuration that is said in words, as docs/BENCH.md has them: a header, then a record for each object. The
-- rules say how long both are, and which byte counts the objects.
use Rattle.std.specs.Prelude.{ℕ, ◌+◌, ◌*◌, ◌%◌, ◌≡◌, Bool, cond, List, [], ◌∷◌, ◌++◌, get_or, eqb, ltb, Result, is_ok}
use Rattle.bench_draft.specs.declared.draft.TooManyObjects.{TooManyObjects}
use Rattle.rules.specs.Bytes.{big_endian, splice}
use Rattle.rules.specs.Repeat.{rising}
use Rattle.rules.specs.Configuration.{header_size, objects_byte}
use Rattle.rules.specs.Can.{can_format}

-- mark, version 1, the controllers, no object yet, and a zero byte
abbrev pub header : ℕ → List ℕ
header controllers = can_format.header ++ (0x00 ∷ 0x01 ∷ controllers % 256 ∷ 0x00 ∷ 0x00 ∷ [])

-- an object that sends: no filter, but for the number of its pool in the last byte of the code, which is 0 in version 1
abbrev pub sending_record : ℕ → ℕ → ℕ → ℕ → List ℕ
sending_record controller payload padding pool = controller % 256 ∷ 0 ∷ payload % 256 ∷ padding % 256 ∷ 0 ∷ 0 ∷ 0 ∷ pool % 256 ∷ 0 ∷ 0 ∷ 0 ∷ 0 ∷ []

-- an object that receives: no padding
abbrev pub receiving_record : ℕ → ℕ → ℕ → ℕ → List ℕ
receiving_record controller payload code mask = controller % 256 ∷ 1 ∷ payload % 256 ∷ 0 ∷ big_endian 4 code ++ big_endian 4 mask

-- where the record of an object begins
abbrev pub record_at : ℕ → ℕ
record_at object = header_size + can_format.record_size * object

-- how many bytes there are
abbrev pub size_of : List ℕ → ℕ
size_of draft = record_at (objects_byte draft)

-- one byte counts the objects, so there are at most so many
abbrev pub most_objects : ℕ
most_objects = 255

-- version 2: some object says its pool
abbrev pub says_pools : List ℕ → Bool
says_pools draft = eqb (get_or draft 4 0) 2

-- the pool of the next object, if it says none: its own number, where there are pools
abbrev pub own_pool : List ℕ → ℕ
own_pool draft = cond (says_pools draft) (objects_byte draft) 0

-- an object that sends has its own number as its pool
abbrev pub with_own_pool : ℕ → List ℕ → List ℕ
with_own_pool object draft = cond (eqb (get_or draft (record_at object + 1) 0) 0) (splice (record_at object + 7) (object ∷ []) draft) draft

-- the first object that says its pool makes the draft one of version 2, in which each object so far has its own
unfoldable pub in_pools : List ℕ → List ℕ
in_pools draft = cond (says_pools draft) draft (splice 4 (2 ∷ []) (rising (objects_byte draft) with_own_pool draft))

-- the record of an object, which is the last one
abbrev pub with_record : ℕ → List ℕ → List ℕ → List ℕ
with_record object bytes draft = splice 6 ((object + 1) ∷ []) (splice (record_at object) bytes draft)

-- there is room for one more object
abbrev pub has_room : List ℕ → Bool
has_room draft = ltb (objects_byte draft) most_objects

-- what adding an object owes: whether there was room, and then the draft with it
pub record Added (more before after : List ℕ) (r : Result Unit TooManyObjects) : Type 0 where
  pub room : is_ok r ≡ has_room before
  pub bytes_are : after ≡ cond (has_room before) more before
