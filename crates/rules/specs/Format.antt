-- What a kind of frame is. The core knows nothing of it; validity, Init, Write and Arrived know a frame and its settings by this record
-- alone, so that another kind of frame is another value of it.
use Rattle.std.specs.Prelude.{ℕ, ◌<◌, ◌^◌, ◌≡◌, Bool, true, List, length}
use Rattle.rules.specs.Limits.{Limits}
use Rattle.rules.specs.Head.{handle_in}
use Rattle.rules.specs.Reason.{Check, first_reason}
use Rattle.rules.specs.Core.{Owner}

pub record Format : Type 1 where
  -- a frame that is written or arrives
  pub Frame : Type 0
  -- what the configuration says of an object beyond its controller, its kind and its pool
  pub Settings : Type 0
  -- the settings of an unused place
  pub unused_settings : Settings
  pub settings_unused : Settings → Bool
  -- settings that Init accepts, for a receiving object (true) or a sending one (false)
  pub settings_valid : Bool → Settings → Bool
  -- settings that two objects of one pool may have
  pub settings_agree : Settings → Settings → Bool
  -- the fixed first bytes of a configuration, and the versions that there are
  pub header : List ℕ
  pub known_version : ℕ → Bool
  -- bytes of an object's configuration record; the settings that such a record says in a version, and the pool of an object that sends,
  -- by the version and the object's number
  pub record_size : ℕ
  pub settings_of : ℕ → List ℕ → Settings
  pub pool_of : ℕ → ℕ → List ℕ → ℕ
  -- whether a record of a version can say this of an object, by its number, and the record that says it
  pub can_say : ℕ → ℕ → Owner → Settings → Bool
  pub record_of : ℕ → Owner → Settings → List ℕ
  -- the reasons that a write finds in its frame, and those that an arrival finds
  pub write_checks : Settings → Frame → List Check
  pub arrival_checks : Frame → List Check
  -- a receiving object's filter, and its rank among those that fit
  pub accepts : Settings → Frame → Bool
  pub rank : Settings → ℕ
  -- the bytes that an object holds once a frame with this handle is laid down
  pub object_bytes : Settings → ℕ → Frame → List ℕ
  -- the rank of the frame in an object's bytes among those that wait to be sent
  pub priority : List ℕ → ℕ

-- What the laws ask of a format: unused settings are recognised, a frame that passes its checks fills its object, its handle can be read
-- back, and one object of a pool carries what another does.
pub record Lawful (L : Limits) (F : Format) : Type 0 where
  pub unused : F.settings_unused F.unused_settings ≡ true
  pub written_fills : (s : F.Settings) (handle : ℕ) (f : F.Frame) → first_reason (F.write_checks s f) ≡ 0 → length (F.object_bytes s handle f) ≡ L.object_size
  pub arrived_fills : (s : F.Settings) (f : F.Frame) → first_reason (F.arrival_checks f) ≡ 0 → length (F.object_bytes s 0 f) ≡ L.object_size
  pub handle_kept : (s : F.Settings) (handle : ℕ) (f : F.Frame) → handle < 2 ^ 16 → handle_in (F.object_bytes s handle f) ≡ handle
  pub carried_alike : (s t : F.Settings) (f : F.Frame) → F.settings_agree s t ≡ true → first_reason (F.write_checks t f) ≡ 0 → first_reason (F.write_checks s f) ≡ 0
