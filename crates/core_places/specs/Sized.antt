-- How many places a core has. The code has no other cores: `Core::places` says it of each.
use Rattle.std.specs.Prelude.{ℕ, ◌≡◌, length}
use Rattle.rules.specs.Core.{Core}

pub record Sized (controllers objects : ℕ) (core : Core) : Type 0 where
  pub controllers_are : length core.controllers ≡ controllers
  pub errors_are : length core.errors ≡ controllers
  pub owners_are : length core.owners ≡ objects
  pub mailboxes_are : length core.mailboxes ≡ objects
