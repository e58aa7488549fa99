-- Frames that are filtered by ranges of identifiers.
use Rattle.std.specs.Prelude.{ℕ, ◌-◌, ◌^◌, Bool, not, cond, ◌&&◌, List, [], ◌∷◌, ◌++◌, length, get_or, replicate, eqb, ltb, leb}
use Rattle.rules.specs.Limits.{Limits}
use Rattle.rules.specs.Bytes.{big_endian, number, part}
use Rattle.rules.specs.Reason.{Check, ◌if◌, CAN_E_PARAM_DATA_LENGTH, BAD_IDENTIFIER, BAD_LENGTH}
use Rattle.rules.specs.Head.{identifier_in}
use Rattle.rules.specs.Core.{Owner}
use Rattle.rules.specs.Format.{Format}

-- a frame: its identifier, and its data
pub record Frame : Type 0 where
  pub identifier : ℕ
  pub sdu : List ℕ

-- what is configured of an object's frames
pub record Settings : Type 0 where
  -- a sending object: the longest data that it carries; 0 for a receiving one
  pub longest : ℕ
  -- a receiving object: the first and the last identifier that it takes; 0 for a sending one
  pub lowest : ℕ
  pub highest : ℕ

-- identifiers have 16 bits
abbrev pub last_identifier : ℕ
last_identifier = 0xFFFF

-- the longest data of a frame
abbrev pub longest_data : ℕ
longest_data = 8

-- a length that an object with these settings carries
abbrev pub length_fits : Settings → ℕ → Bool
length_fits s n = leb n longest_data && leb n s.longest

-- the identifier lies in the object's range
abbrev pub in_range : Settings → ℕ → Bool
in_range s identifier = leb s.lowest identifier && leb identifier s.highest

-- the narrower the range, the higher it ranks
abbrev pub narrowness : Settings → ℕ
narrowness s = last_identifier - (s.highest - s.lowest)

-- The configuration record of an object

-- a sending object carries no more than a frame does, and has no range
abbrev pub sending_valid : Settings → Bool
sending_valid s = leb s.longest longest_data && eqb s.lowest 0 && eqb s.highest 0

-- a receiving object has a range of identifiers that there are, and nothing to send
abbrev pub receiving_valid : Settings → Bool
receiving_valid s = eqb s.longest 0 && leb s.lowest s.highest && leb s.highest last_identifier

-- by the kind of the object: receiving (true) or sending (false)
abbrev pub settings_valid : Bool → Settings → Bool
settings_valid receiving s = cond receiving (receiving_valid s) (sending_valid s)

-- the settings of an unused place, and their test: everything zero
abbrev pub unused_settings : Settings
unused_settings = record { longest = 0; lowest = 0; highest = 0 }

abbrev pub settings_unused : Settings → Bool
settings_unused s = eqb s.longest 0 && eqb s.lowest 0 && eqb s.highest 0

-- objects of one pool carry data of the same length
abbrev pub settings_agree : Settings → Settings → Bool
settings_agree s t = eqb s.longest t.longest

-- the letters RNG, then version 00 02
abbrev pub header : List ℕ
header = 0x52 ∷ 0x4E ∷ 0x47 ∷ []

abbrev pub known_version : ℕ → Bool
known_version version = eqb version 2

-- a record has 7 bytes: controller, kind, then longest (1), and for a receiving object lowest (2), highest (2), for a sending one zeros and
-- its pool
abbrev pub settings_of : ℕ → List ℕ → Settings
settings_of version r =
    record { longest = get_or r 2 0; lowest = number (part 3 2 r); highest = cond (eqb (get_or r 1 0) 0) (number (part 5 1 r ++ (0 ∷ []))) (number (part 5 2 r)) }

abbrev pub pool_of : ℕ → ℕ → List ℕ → ℕ
pool_of version h r = get_or r 6 0

-- each number has as many bytes as the record has for it
abbrev pub can_say : ℕ → ℕ → Owner → Settings → Bool
can_say version h o s =
    ltb o.controller 256 && ltb o.pool 256 && ltb s.longest 256 && ltb s.lowest (2 ^ 16) && ltb s.highest (2 ^ 16)

abbrev pub record_of : ℕ → Owner → Settings → List ℕ
record_of version o s =
    (o.controller ∷ cond o.receiving 1 0 ∷ s.longest ∷ []) ++ (big_endian 2 s.lowest ++ cond o.receiving (big_endian 2 s.highest) (0 ∷ o.pool ∷ []))

-- Frames

-- the bytes of an object: identifier (4 bytes), length (2), handle (2), data, then zeros
unfoldable pub object_bytes : Settings → ℕ → Frame → List ℕ
object_bytes s handle f =
    big_endian 4 f.identifier ++ (big_endian 2 (length f.sdu) ++ (big_endian 2 handle ++ (f.sdu ++ replicate (longest_data - length f.sdu) 0)))

-- why a write is refused: 3 where the object does not carry the length, 34 where there is no such identifier
abbrev pub write_checks : Settings → Frame → List Check
write_checks s f =
    CAN_E_PARAM_DATA_LENGTH if not (length_fits s (length f.sdu))
    ∷ BAD_IDENTIFIER if not (leb f.identifier last_identifier)
    ∷ []

-- why an arrival is refused: 34 where there is no such identifier, 40 where no frame has the length
abbrev pub arrival_checks : Frame → List Check
arrival_checks f =
    BAD_IDENTIFIER if not (leb f.identifier last_identifier)
    ∷ BAD_LENGTH if not (leb (length f.sdu) longest_data)
    ∷ []

-- the lowest identifier is sent first
abbrev pub priority : List ℕ → ℕ
priority bytes = last_identifier - identifier_in bytes

-- all of this as a format
abbrev pub ranged_format : Format
ranged_format =
    record {
      Frame = Frame;
      Settings = Settings;
      unused_settings = unused_settings;
      settings_unused = settings_unused;
      settings_valid = settings_valid;
      settings_agree = settings_agree;
      header = header;
      known_version = known_version;
      record_size = 7;
      settings_of = settings_of;
      pool_of = pool_of;
      can_say = can_say;
      record_of = record_of;
      write_checks = write_checks;
      arrival_checks = arrival_checks;
      accepts = λ s f. in_range s f.identifier;
      rank = narrowness;
      object_bytes = object_bytes;
      priority = priority;
    }

-- the limits of a small chip for such frames: an object has 8 bytes of head and 8 of data, and its length has two bytes
abbrev pub small_chip : Limits
small_chip = record { controllers = 2; objects = 3; object_size = 16; length_size = 2 }
