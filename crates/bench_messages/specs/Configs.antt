-- The configuration that a driver has, in the words of a script.
use Rattle.std.specs.Prelude.{ℕ, List}
use Rattle.bench_say.specs.Say.{said, five}

-- what a line asks for, and how many bytes were written
abbrev pub asked : ℕ → ℕ → ℕ → List ℕ
asked line version room = said "%6  config in version %0, room for %b" (five line version room 0 0)

abbrev pub written : ℕ → List ℕ
written bytes = said "accepted: %b\n" (five bytes 0 0 0 0)

-- the lines of it: the controllers, and an object that sends, that names its pool, or that receives
abbrev pub controllers : ℕ → List ℕ
controllers count = said "          controllers %0\n" (five count 0 0 0 0)

abbrev pub sending : ℕ → ℕ → ℕ → List ℕ
sending controller payload padding = said "          object send controller %0 payload %0 padding %h\n" (five controller payload padding 0 0)

abbrev pub pooled : ℕ → ℕ → ℕ → ℕ → List ℕ
pooled controller payload padding pool =
    said "          object send controller %0 payload %0 padding %h pool %0\n" (five controller payload padding pool 0)

abbrev pub receiving : ℕ → ℕ → ℕ → ℕ → List ℕ
receiving controller payload code mask =
    said "          object receive controller %0 payload %0 code %x mask %x\n" (five controller payload code mask 0)

-- 9: what a version cannot say
abbrev pub unknown_version : ℕ → List ℕ
unknown_version version = said "version %0, expected 1 or 2\n" (five version 0 0 0 0)

abbrev pub not_initialised : List ℕ
not_initialised = said "the driver is not initialised\n" (five 0 0 0 0 0)

abbrev pub in_a_pool : ℕ → ℕ → List ℕ
in_a_pool object pool = said "object %0 is in pool %0, and version 1 says no pools\n" (five object pool 0 0 0)

-- 32: room for fewer bytes than there are
abbrev pub short_room : ℕ → ℕ → List ℕ
short_room room size = said "room for %b, and the configuration has %0\n" (five room size 0 0 0)
