-- The record that a version has for object h.
use Rattle.std.specs.Prelude.{ℕ, List}
use Rattle.rules.specs.Core.{Owner, owner_at}
use Rattle.rules.specs.Configuration.{settings_at}
use Rattle.rules.specs.Can.{Settings, can_format, record_of}

abbrev pub record_at : ℕ → List Owner → List Settings → ℕ → List ℕ
record_at version os ss h = record_of version (owner_at os h) (settings_at can_format ss h)
