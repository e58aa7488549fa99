-- What the reader answers: a reading exactly where the bytes are accepted, of what they say.
use mathlib.Core.Path.{◌≡◌, sym}
use mathlib.Core.List.{List}
use Prim.Native.Nat.{ℕ}
use Rattle.std.specs.Prelude.{Option, Some, None, is_some}
use Rattle.std.proofs.lemmas.Option.{MatchOption-at_some}
use Rattle.rules.specs.Configuration.{configuration_of, accepted_bytes}
use Rattle.rules.specs.Can.{can_format}
use Rattle.rules.specs.Chip.{chip}
use Rattle.can_config.specs.declared.setup.Reading.{Reading}
use Rattle.can_config.specs.View.{view_setup}
use Rattle.can_config.specs.Reading.{Configuration_said, Configuration_read}

module _ (bytes : List ℕ) where
  pub read_accepted : (r : Option Reading) → Configuration_read bytes r → is_some r ≡ accepted_bytes chip can_format bytes
  read_accepted None refused = sym refused
  read_accepted (Some said) read = sym read.accepted

  pub read_setup : {r : Option Reading} (said : Reading) → r ≡ Some said → Configuration_read bytes r → view_setup said.setup ≡ configuration_of chip can_format bytes
  read_setup said is read = (MatchOption-at_some _ (Configuration_said bytes) said is read).setup
