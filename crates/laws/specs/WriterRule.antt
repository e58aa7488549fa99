-- The writer of configurations. 02, Q-2: "reading what it wrote gives version and configuration back, and a version's accepted bytes are
-- the only ones for their meaning, pool numbers included. The writer gives 9 exactly for what its version cannot say, then 32 for a short
-- buffer, both leaving it unchanged; bytes past its last stay."
use Rattle.std.specs.Prelude.{ℕ, ◌≤◌, ◌<◌, ◌^◌, ◌≡◌, true, List, ◌↔◌, length, take, drop, get_or}
use Rattle.rules.specs.Limits.{Limits}
use Rattle.rules.specs.Reason.{CAN_E_INIT_FAILED, SHEET_TOO_SHORT}
use Rattle.rules.specs.Core.{Owner}
use Rattle.rules.specs.Format.{Format}
use Rattle.rules.specs.Configuration.{Configuration, version_of, owner_of, settings_at, configuration_valid, configuration_of, accepted_bytes}
use Rattle.rules.specs.Writer.{can_say, configuration_bytes, written_size, writer_reason, buffer_after}
use Rattle.rules.specs.Can.{can_format}

-- each number of the list is a byte
abbrev pub AllBytes : List ℕ → Type 0
AllBytes bytes = (i : ℕ) → get_or bytes i 0 < 2 ^ 8

-- these bytes are accepted, have this version, and mean this configuration
pub record Says (L : Limits) (F : Format) (version : ℕ) (c : Configuration F) (bytes : List ℕ) : Type 0 where
  pub all_bytes : AllBytes bytes
  pub accepted : accepted_bytes L F bytes ≡ true
  pub version_read : version_of bytes ≡ version
  pub meaning : configuration_of L F bytes ≡ c

-- these bytes are the record of an object h that has this owner and these settings
pub record RecordSays (F : Format) (version h : ℕ) (o : Owner) (s : F.Settings) (r : List ℕ) : Type 0 where
  pub all_bytes : AllBytes r
  pub whole : length r ≡ F.record_size
  pub kind_known : get_or r 1 0 ≤ 1
  pub owner_read : owner_of F version h r ≡ o
  pub settings_read : F.settings_of version r ≡ s

-- What the theorems ask of a format. Its header has three bytes, a version that it knows no more than two, and only unused settings pass
-- for such. The record that is written for valid settings says them, if they can be said; and each record that says valid settings is the
-- one that is written.
pub record Sayable (F : Format) : Type 0 where
  pub header_bytes : AllBytes F.header
  pub header_size : length F.header ≡ 3
  pub version_size : (version : ℕ) → F.known_version version ≡ true → version < 2 ^ 16
  pub unused_alone : (s : F.Settings) → F.settings_unused s ≡ true → s ≡ F.unused_settings
  pub record_back : (version h : ℕ) (o : Owner) (s : F.Settings) → F.known_version version ≡ true → F.settings_valid o.receiving s ≡ true
      → (o.receiving ≡ true → o.pool ≡ 0)
      → F.can_say version h o s ≡ true → RecordSays F version h o s (F.record_of version o s)
  pub record_alone : (version h : ℕ) (o : Owner) (s : F.Settings) → F.known_version version ≡ true → F.settings_valid o.receiving s ≡ true
      → (r : List ℕ) → RecordSays F version h o s r → (F.can_say version h o s ≡ true) × (F.record_of version o s ≡ r)

-- "reading what it wrote gives version and configuration back"
abbrev pub ReadBackRule : Limits → Format → Type 0
ReadBackRule L F = (version : ℕ) (c : Configuration F) → can_say L F version c ≡ true → Says L F version c (configuration_bytes L F version c)

-- "a version's accepted bytes are the only ones for their meaning"
abbrev pub OnlyBytesRule : Limits → Format → Type 0
OnlyBytesRule L F = (version : ℕ) (c : Configuration F) (bytes others : List ℕ) → Says L F version c bytes → Says L F version c others → bytes ≡ others

-- what a version can say: what some bytes of it mean
abbrev pub SayRule : Limits → Format → Type 0
SayRule L F = (version : ℕ) (c : Configuration F) → (can_say L F version c ≡ true) ↔ ((bytes : List ℕ) × Says L F version c bytes)

-- "9 exactly for what its version cannot say", whatever the buffer's length
abbrev pub CannotSayRule : Limits → Format → Type 0
CannotSayRule L F =
    (version : ℕ) (c : Configuration F) (room : ℕ) → (writer_reason L F version c room ≡ CAN_E_INIT_FAILED) ↔ ((bytes : List ℕ) → Says L F version c bytes → ⊥)

-- "then 32 for a short buffer"
abbrev pub ShortBufferRule : Limits → Format → Type 0
ShortBufferRule L F =
    (version : ℕ) (c : Configuration F) (room : ℕ)
    → (writer_reason L F version c room ≡ SHEET_TOO_SHORT) ↔ (((bytes : List ℕ) × Says L F version c bytes) × (room < written_size L F c))

-- "both leaving it unchanged"
abbrev pub BufferKeptRule : Limits → Format → Type 0
BufferKeptRule L F =
    (version : ℕ) (c : Configuration F) (buffer : List ℕ) → (writer_reason L F version c (length buffer) ≡ 0 → ⊥) → buffer_after L F version c buffer ≡ buffer

-- what it wrote says what it was given, and "bytes past its last stay"
pub record Written (L : Limits) (F : Format) (version : ℕ) (c : Configuration F) (buffer : List ℕ) : Type 0 where
  pub says : Says L F version c (take (written_size L F c) (buffer_after L F version c buffer))
  pub rest : drop (written_size L F c) (buffer_after L F version c buffer) ≡ drop (written_size L F c) buffer

abbrev pub WrittenRule : Limits → Format → Type 0
WrittenRule L F = (version : ℕ) (c : Configuration F) (buffer : List ℕ) → writer_reason L F version c (length buffer) ≡ 0 → Written L F version c buffer

-- For classic and FD frames: "one that Init accepts"

-- a place for each object, and numbers that fit the bytes of a record
pub record Sized (L : Limits) (c : Configuration can_format) : Type 0 where
  pub owner_places : length c.owners ≡ L.objects
  pub settings_places : length c.settings ≡ L.objects
  pub paddings : (h : ℕ) → (settings_at can_format c.settings h).padding < 2 ^ 8
  pub codes : (h : ℕ) → (settings_at can_format c.settings h).code < 2 ^ 32
  pub masks : (h : ℕ) → (settings_at can_format c.settings h).mask < 2 ^ 32

-- a valid configuration is what some accepted bytes mean, of one version or the other
abbrev pub AcceptedRule : Limits → Type 0
AcceptedRule L =
    (c : Configuration can_format) → Sized L c
    → (configuration_valid L can_format c ≡ true) ↔ ((version : ℕ) × (bytes : List ℕ) × Says L can_format version c bytes)
