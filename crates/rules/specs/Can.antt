-- Classic and FD frames. 01, "Identifiers and lengths", and the 72 bytes of an object; 02, Q-1 and Q-2.
use Rattle.std.specs.Prelude.{ℕ, ◌+◌, ◌-◌, ◌*◌, ◌/◌, ◌%◌, ◌^◌, Bool, not, cond, ◌&&◌, ◌||◌, List, [], ◌∷◌, ◌++◌, length, get_or, replicate, eqb, ltb, leb}
use Rattle.std.specs.Int.Bits.{bit_and}
use Rattle.rules.specs.Limits.{Limits, ram_size, object_start}
use Rattle.rules.specs.Repeat.{all_below}
use Rattle.rules.specs.Bytes.{big_endian, number, part}
use Rattle.rules.specs.Reason.{Check, ◌if◌, CAN_E_PARAM_DATA_LENGTH, BAD_IDENTIFIER, BAD_LENGTH}
use Rattle.rules.specs.Head.{identifier_in}
use Rattle.rules.specs.Core.{Owner}
use Rattle.rules.specs.Format.{Format}

-- a frame: identifier word, and its data (AUTOSAR's SDU)
pub record Frame : Type 0 where
  pub identifier : ℕ
  pub sdu : List ℕ

-- "payload (8 or 64), padding value, filter code (4), filter mask (4)"
pub record Settings : Type 0 where
  pub payload : ℕ
  pub padding : ℕ
  pub code : ℕ
  pub mask : ℕ

-- Identifiers

-- bit k of a number is a one
abbrev pub has_bit : ℕ → ℕ → Bool
has_bit k x = eqb (x / 2 ^ k % 2) 1

-- "Bit 31 marks an extended identifier, bit 30 an FD frame."
abbrev pub is_extended : ℕ → Bool
is_extended identifier = eqb (identifier / 2 ^ 31) 1

abbrev pub is_fd : ℕ → Bool
is_fd identifier = has_bit 30 identifier

-- bits 28 to 11, which only an extended identifier may use
abbrev pub extended_only : ℕ
extended_only = 0x1FFFF800

-- "good if bit 29 is clear and, where bit 31 is clear, bits 28 to 11 are clear too"
abbrev pub identifier_good : ℕ → Bool
identifier_good x = eqb (bit_and x 0x20000000) 0 && (is_extended x || eqb (bit_and x extended_only) 0)

-- Lengths

-- "FD lengths on the wire 0 to 8, 12, 16, 20, 24, 32, 48, 64"; the DLC code is the position in this list
abbrev pub fd_lengths : List ℕ
fd_lengths = 0 ∷ 1 ∷ 2 ∷ 3 ∷ 4 ∷ 5 ∷ 6 ∷ 7 ∷ 8 ∷ 12 ∷ 16 ∷ 20 ∷ 24 ∷ 32 ∷ 48 ∷ 64 ∷ []

-- the first of the lengths that is at least n; 255 where none is
unfoldable pub next_length : List ℕ → ℕ → ℕ
next_length [] n = 255
next_length (l ∷ ls) n = cond (leb n l) l (next_length ls n)

-- how many of the lengths are below n
unfoldable pub lengths_below : List ℕ → ℕ → ℕ
lengths_below [] n = 0
lengths_below (l ∷ ls) n = cond (leb n l) 0 (1 + lengths_below ls n)

-- "goes out at the next higher wire length"
abbrev pub wire_length : ℕ → ℕ
wire_length n = next_length fd_lengths n

abbrev pub dlc_code : ℕ → ℕ
dlc_code n = lengths_below fd_lengths n

-- the longest data: of a classic frame, and of an FD frame
abbrev pub longest_classic : ℕ
longest_classic = 8

abbrev pub longest_fd : ℕ
longest_fd = 64

-- 3: "classic above 8, FD above 64, or FD to a payload of 8"
abbrev pub length_fits : ℕ → ℕ → ℕ → Bool
length_fits payload identifier n = cond (is_fd identifier) (leb n longest_fd && not (eqb payload longest_classic)) (leb n longest_classic)

-- 40: "arriving length not a wire length of its format"
abbrev pub is_wire_length : ℕ → ℕ → Bool
is_wire_length identifier n = cond (is_fd identifier) (leb n longest_fd && eqb (wire_length n) n) (leb n longest_classic)

-- Filters

-- "bit 31 agrees with the code's, the identifier and the code agree on every bit of the mask, and the payload is 64 if the frame is FD"
abbrev pub filter_accepts : ℕ → ℕ → ℕ → ℕ → Bool
filter_accepts identifier code mask payload =
    eqb (identifier / 2 ^ 31) (code / 2 ^ 31)
    && eqb (bit_and identifier mask) (bit_and code mask)
    && (not (is_fd identifier) || eqb payload longest_fd)

-- The configuration record of an object

-- "Sending: code and mask zero."
abbrev pub sending_valid : Settings → Bool
sending_valid s = eqb s.code 0 && eqb s.mask 0

-- how many bits an extended identifier has: "bits 28 to 0"
abbrev pub identifier_bits : ℕ
identifier_bits = 29

-- 02's stray bit: the code has "a one where the mask has a zero"
abbrev pub stray_at : ℕ → ℕ → ℕ → Bool
stray_at code mask k = has_bit k code && not (has_bit k mask)

-- no stray bit: 02, Q-1, bad "if bits 28 to 0 of its code have a one where the mask has a zero"
abbrev pub within_mask : ℕ → ℕ → Bool
within_mask code mask = all_below identifier_bits (λ k. not (stray_at code mask k))

-- "padding zero; code bits 30 and 29 zero; mask bits 31 to 29 zero; if code bit 31 is clear, bits 28 to 11 of code and mask zero";
-- and no stray bit
abbrev pub receiving_valid : Settings → Bool
receiving_valid s =
    eqb s.padding 0
    && eqb (bit_and s.code 0x60000000) 0
    && eqb (bit_and s.mask 0xE0000000) 0
    && (is_extended s.code || eqb (bit_and s.code extended_only) 0 && eqb (bit_and s.mask extended_only) 0)
    && within_mask s.code s.mask

abbrev pub settings_valid : Bool → Settings → Bool
settings_valid receiving s =
    (eqb s.payload longest_classic || eqb s.payload longest_fd) && cond receiving (receiving_valid s) (sending_valid s)

abbrev pub unused_settings : Settings
unused_settings = record { payload = 0; padding = 0; code = 0; mask = 0 }

abbrev pub settings_unused : Settings → Bool
settings_unused s = eqb s.payload 0 && eqb s.padding 0 && eqb s.code 0 && eqb s.mask 0

-- 02, Q-2: "agree in .. payload and padding"
abbrev pub settings_agree : Settings → Settings → Bool
settings_agree s t = eqb s.payload t.payload && eqb s.padding t.padding

-- "the three bytes 43 48 42"
abbrev pub header : List ℕ
header = 0x43 ∷ 0x48 ∷ 0x42 ∷ []

-- "version 00 01"; 02: "Configuration version 2 (bytes 00 02)", "Init takes both versions, any other is 9"
abbrev pub known_version : ℕ → Bool
known_version version = eqb version 1 || eqb version 2

-- 02: version 2 "uses the last byte of a sending record's code for a pool number"
abbrev pub says_pool : ℕ → List ℕ → Bool
says_pool version r = eqb version 2 && eqb (get_or r 1 0) 0

-- "filter code (4)"; where its last byte says a pool, the code is "its other .. bytes"
abbrev pub code_of : ℕ → List ℕ → ℕ
code_of version r = cond (says_pool version r) (number (part 4 3 r ++ (0 ∷ []))) (number (part 4 4 r))

-- bytes 2 to 11 of a record: payload, padding value, filter code, filter mask
abbrev pub settings_of : ℕ → List ℕ → Settings
settings_of version r = record { payload = get_or r 2 0; padding = get_or r 3 0; code = code_of version r; mask = number (part 8 4 r) }

-- the pool of sending object h: 02, "In version 1 each object is its own pool, under its own number"
abbrev pub pool_of : ℕ → ℕ → List ℕ → ℕ
pool_of version h r = cond (says_pool version r) (get_or r 7 0) h

-- version 2 has a byte for the pool, version 1 says none but the object's own number; each other number has its bytes of the record
abbrev pub can_say : ℕ → ℕ → Owner → Settings → Bool
can_say version h o s =
    cond (eqb version 2) (ltb o.pool 256) (o.receiving || eqb o.pool h)
    && (ltb o.controller 256 && ltb s.payload 256 && ltb s.padding 256 && ltb s.code (2 ^ 32) && ltb s.mask (2 ^ 32))

-- "controller .., kind .., payload .., padding value, filter code (4), filter mask (4)"
abbrev pub record_of : ℕ → Owner → Settings → List ℕ
record_of version o s =
    (o.controller ∷ cond o.receiving 1 0 ∷ s.payload ∷ s.padding ∷ [])
    ++ (cond (eqb version 2 && not o.receiving) (0 ∷ 0 ∷ 0 ∷ o.pool ∷ []) (big_endian 4 s.code) ++ big_endian 4 s.mask)

-- The bytes of an object: "identifier word (4 bytes), wire length (1), DLC code (1), handle (2), data (64)"

abbrev pub object_head : ℕ → ℕ → ℕ → List ℕ
object_head identifier n handle = big_endian 4 identifier ++ (wire_length n ∷ dlc_code n ∷ big_endian 2 handle)

-- "the added bytes hold the object's padding value. Data bytes after the wire length are zero."
abbrev pub object_data : ℕ → List ℕ → List ℕ
object_data padding sdu =
    sdu ++ (replicate (wire_length (length sdu) - length sdu) padding ++ replicate (longest_fd - wire_length (length sdu)) 0)

unfoldable pub object_bytes : Settings → ℕ → Frame → List ℕ
object_bytes s handle f = object_head f.identifier (length f.sdu) handle ++ object_data s.padding f.sdu

-- Write's reasons 3 and 34, and Arrived's reasons 34 and 40
abbrev pub write_checks : Settings → Frame → List Check
write_checks s f =
    CAN_E_PARAM_DATA_LENGTH if not (length_fits s.payload f.identifier (length f.sdu))
    ∷ BAD_IDENTIFIER if not (identifier_good f.identifier)
    ∷ []

abbrev pub arrival_checks : Frame → List Check
arrival_checks f =
    BAD_IDENTIFIER if not (identifier_good f.identifier)
    ∷ BAD_LENGTH if not (is_wire_length f.identifier (length f.sdu))
    ∷ []

-- Who sends next. 02, Q-2

-- "11-bit base identifier .. (bits 10 to 0 of a standard one, bits 28 to 18 of an extended one)"
abbrev pub base_identifier : ℕ → ℕ
base_identifier x = cond (is_extended x) (x / 2 ^ 18 % 2 ^ 11) (x % 2 ^ 11)

-- "the lower 18 bits of extended ones"
abbrev pub lower_identifier : ℕ → ℕ
lower_identifier x = cond (is_extended x) (x % 2 ^ 18) 0

-- 02's order as one number, the first one lowest: base identifier, "then standard before extended", then the lower bits
abbrev pub arbitration_key : ℕ → ℕ
arbitration_key x = (base_identifier x * 2 + cond (is_extended x) 1 0) * 2 ^ 18 + lower_identifier x

-- the lowest key ranks highest; a key has 30 bits
abbrev pub priority : List ℕ → ℕ
priority bytes = 2 ^ 30 - 1 - arbitration_key (identifier_in bytes)

-- classic and FD frames as a format; all filters rank alike
abbrev pub can_format : Format
can_format =
    record {
      Frame = Frame;
      Settings = Settings;
      unused_settings = unused_settings;
      settings_unused = settings_unused;
      settings_valid = settings_valid;
      settings_agree = settings_agree;
      header = header;
      known_version = known_version;
      record_size = 12;
      settings_of = settings_of;
      pool_of = pool_of;
      can_say = can_say;
      record_of = record_of;
      write_checks = write_checks;
      arrival_checks = arrival_checks;
      accepts = λ s f. filter_accepts f.identifier s.code s.mask s.payload;
      rank = λ s. 0;
      object_bytes = object_bytes;
      priority = priority;
    }

-- Data of an object: "that part of the caller's mailbox memory that holds its data, as long as byte 4 says;
-- the empty part if the object is 32 or more, the memory is not 2,304 bytes, or byte 4 is above 64"
unfoldable pub data_of : Limits → ℕ → List ℕ → List ℕ
data_of L h ram =
    let n = get_or ram (object_start L h + 4) 0 in
    cond (ltb h L.objects && eqb (length ram) (ram_size L) && leb n longest_fd) (part (object_start L h + 8) n ram) []
