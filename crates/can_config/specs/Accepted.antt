-- What accepted bytes say, as clauses see it: their version, and the configuration.
use Rattle.std.specs.Prelude.{ℕ}
use Rattle.rules.specs.Configuration.{Configuration}
use Rattle.rules.specs.Can.{can_format}

pub record Accepted : Type 0 where
  pub version : ℕ
  pub setup : Configuration can_format
