-- The configuration and its bytes. 01, "Configuration bytes"; 02, Q-2.
use Rattle.std.specs.Prelude.{ℕ, ◌+◌, ◌*◌, Bool, cond, ◌&&◌, ◌||◌, List, [], ◌∷◌, length, take, get_or, replicate, eqb, ltb, leb}
use Rattle.rules.specs.Limits.{Limits}
use Rattle.rules.specs.Format.{Format}
use Rattle.rules.specs.Repeat.{all_below, list_below}
use Rattle.rules.specs.Bytes.{number, part, same_bytes}
use Rattle.rules.specs.Core.{Owner, unused_owner, owner_at, lowest_of, counts_valid, owners_valid}

-- how many controllers and objects are in use, and for each object's place its owner and what is configured of its frames
pub record Configuration (F : Format) : Type 0 where
  pub controller_count : ℕ
  pub object_count : ℕ
  pub owners : List Owner
  pub settings : List F.Settings

-- The bytes: the header is 8 bytes, then one record for each object.
abbrev pub header_size : ℕ
header_size = 8

-- bytes 3 and 4
abbrev pub version_of : List ℕ → ℕ
version_of bytes = number (get_or bytes 3 0 ∷ get_or bytes 4 0 ∷ [])

abbrev pub controllers_byte : List ℕ → ℕ
controllers_byte bytes = get_or bytes 5 0

abbrev pub objects_byte : List ℕ → ℕ
objects_byte bytes = get_or bytes 6 0

module _ (F : Format) where
  -- "controller .., kind (0 sending, 1 receiving)", the first two bytes of object h's record; a sending object has a pool besides
  abbrev pub owner_of : ℕ → ℕ → List ℕ → Owner
  owner_of version h r =
      let receiving = eqb (get_or r 1 0) 1 in
      record { controller = get_or r 0 0; receiving = receiving; pool = cond receiving 0 (F.pool_of version h r) }

  abbrev pub settings_at : List F.Settings → ℕ → F.Settings
  settings_at ss h = get_or ss h F.unused_settings

  -- settings of an object in use suit its kind, those of any other place are at rest
  abbrev pub settings_place_valid : ℕ → List Owner → List F.Settings → ℕ → Bool
  settings_place_valid object_count os ss h =
      cond (ltb h object_count) (F.settings_valid (owner_at os h).receiving (settings_at ss h)) (F.settings_unused (settings_at ss h))

  -- "Objects with one pool number must agree in .. payload and padding": each with the lowest one
  abbrev pub settings_agreed : ℕ → List Owner → List F.Settings → Bool
  settings_agreed object_count os ss =
      all_below object_count (λ h. (owner_at os h).receiving || F.settings_agree (settings_at ss h) (settings_at ss (lowest_of os h)))

module _ (L : Limits) (F : Format) where
  abbrev pub all_settings_valid : ℕ → List Owner → List F.Settings → Bool
  all_settings_valid object_count os ss =
      all_below L.objects (settings_place_valid F object_count os ss) && settings_agreed F object_count os ss

  -- a configuration that Init accepts, once it is read
  abbrev pub configuration_valid : Configuration F → Bool
  configuration_valid c =
      counts_valid L c.controller_count c.object_count
      && owners_valid L c.controller_count c.object_count c.owners
      && all_settings_valid c.object_count c.owners c.settings

  -- the bytes of object h's record
  abbrev pub object_record : List ℕ → ℕ → List ℕ
  object_record bytes h = part (header_size + F.record_size * h) F.record_size bytes

  -- what the bytes say: in each record the owner, then the settings
  unfoldable pub configuration_of : List ℕ → Configuration F
  configuration_of bytes =
      record {
        controller_count = controllers_byte bytes;
        object_count = objects_byte bytes;
        owners = list_below L.objects (λ h. cond (ltb h (objects_byte bytes)) (owner_of F (version_of bytes) h (object_record bytes h)) unused_owner);
        settings = list_below L.objects (λ h. cond (ltb h (objects_byte bytes)) (F.settings_of (version_of bytes) (object_record bytes h)) F.unused_settings);
      }

  -- "the three bytes 43 48 42 .., version 00 01, controllers .., objects n .., a zero byte"
  abbrev pub header_valid : List ℕ → Bool
  header_valid bytes = same_bytes (take (length F.header) bytes) F.header && F.known_version (version_of bytes) && eqb (get_or bytes 7 0) 0

  -- "Total exactly 8 + 12n"
  abbrev pub size_valid : List ℕ → Bool
  size_valid bytes = eqb (length bytes) (header_size + F.record_size * objects_byte bytes)

  -- "kind (0 sending, 1 receiving)"
  abbrev pub kind_valid : List ℕ → ℕ → Bool
  kind_valid bytes h = leb (get_or (object_record bytes h) 1 0) 1

  -- "Anything else is a bad configuration."
  unfoldable pub accepted_bytes : List ℕ → Bool
  accepted_bytes bytes =
      header_valid bytes && size_valid bytes && all_below (objects_byte bytes) (kind_valid bytes) && configuration_valid (configuration_of bytes)

  -- the configuration before Init: nothing in use
  abbrev pub no_configuration : Configuration F
  no_configuration =
      record {
        controller_count = 0;
        object_count = 0;
        owners = replicate L.objects unused_owner;
        settings = replicate L.objects F.unused_settings;
      }
