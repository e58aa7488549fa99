-- What the reader promises: of the bytes of one record, of all records, and of the whole configuration.
use Rattle.std.specs.Prelude.{ℕ, ◌≡◌, Bool, true, false, cond, ◌&&◌, List, get_or, ltb, leb, Option, MatchOption}
use Rattle.rules.specs.Repeat.{all_below, list_below}
use Rattle.rules.specs.Core.{Owner, unused_owner, owner_valid}
use Rattle.rules.specs.Configuration.{Configuration, version_of, owner_of, object_record, configuration_of, accepted_bytes}
use Rattle.rules.specs.Can.{Settings, can_format, settings_of, settings_valid, unused_settings}
use Rattle.rules.specs.Chip.{chip}
use Rattle.core_places.specs.View.{view_owner}
use Rattle.can_state.specs.View.{view_settings}
use Rattle.can_state.specs.Tests.{pools_agreed}
use Rattle.can_config.specs.View.{view_setup}
use Rattle.can_config.specs.declared.record.Record.{Record}
use Rattle.can_config.specs.declared.setup.Reading.{Reading}
use Rattle.can_config.specs.declared.setup.Setup.{Setup}

-- an object that Init accepts: its kind is known, its controller is in use, and its settings suit its kind
abbrev pub object_valid : ℕ → ℕ → Owner → Settings → Bool
object_valid controller_count kind o s = leb kind 1 && (owner_valid controller_count o && settings_valid o.receiving s)

-- a record of object h that says such an object
abbrev pub record_valid : ℕ → ℕ → ℕ → List ℕ → Bool
record_valid version h controller_count r =
    object_valid controller_count (get_or r 1 0) (owner_of can_format version h r) (settings_of version r)

-- what is read of the bytes of object h's record
pub record Record_read (version h : ℕ) (bytes : List ℕ) (r : Record) : Type 0 where
  pub kind : r.kind ≡ get_or bytes 1 0
  pub owner : view_owner r.owner ≡ owner_of can_format version h bytes
  pub settings : view_settings r.settings ≡ settings_of version bytes

-- what record h says
abbrev pub owner_said : List ℕ → ℕ → ℕ → Owner
owner_said bytes version h = owner_of can_format version h (object_record chip can_format bytes h)

abbrev pub settings_said : List ℕ → ℕ → ℕ → Settings
settings_said bytes version h = settings_of version (object_record chip can_format bytes h)

-- the configuration that the records say, with the version and the counts that were read before them
abbrev pub records_say : List ℕ → ℕ → ℕ → ℕ → Configuration can_format
records_say bytes version controller_count object_count =
    record {
      controller_count = controller_count;
      object_count = object_count;
      owners = list_below chip.objects (λ h. cond (ltb h object_count) (owner_said bytes version h) unused_owner);
      settings = list_below chip.objects (λ h. cond (ltb h object_count) (settings_said bytes version h) unused_settings);
    }

-- Init accepts each of the first n records
abbrev pub records_valid : List ℕ → ℕ → ℕ → ℕ → Bool
records_valid bytes version controller_count n =
    all_below n (λ h. record_valid version h controller_count (object_record chip can_format bytes h))

-- what the records say where Init accepts each, and none where not
pub record Records_said (bytes : List ℕ) (version controller_count object_count : ℕ) (s : Setup) : Type 0 where
  pub valid : records_valid bytes version controller_count object_count ≡ true
  pub setup : view_setup s ≡ records_say bytes version controller_count object_count

abbrev pub Records_read : List ℕ → ℕ → ℕ → ℕ → Option Setup → Type 0
Records_read bytes version controller_count object_count r =
    MatchOption r (records_valid bytes version controller_count object_count ≡ false) (Records_said bytes version controller_count object_count)

-- the pools of a configuration: each is valid, and its members agree
abbrev pub pools_judged : Configuration can_format → Bool
pools_judged c = pools_agreed c.object_count c.owners c.settings

-- version and configuration where the bytes are accepted, and none where not
pub record Configuration_said (bytes : List ℕ) (r : Reading) : Type 0 where
  pub accepted : accepted_bytes chip can_format bytes ≡ true
  pub version_read : r.version ≡ version_of bytes
  pub setup : view_setup r.setup ≡ configuration_of chip can_format bytes

abbrev pub Configuration_read : List ℕ → Option Reading → Type 0
Configuration_read bytes r = MatchOption r (accepted_bytes chip can_format bytes ≡ false) (Configuration_said bytes)
