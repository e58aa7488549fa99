-- What a poll does at an object, as the rules have it.
use Rattle.std.specs.Prelude.{ℕ, Bool, List}
use Rattle.rules.specs.Core.{Owner}
use Rattle.rules.specs.Polls as rules
use Rattle.core_layout.specs.Head.{length_bytes}
use Rattle.core_sweeps.specs.declared.visit.Visit.{Visit}
use Rattle.core_sweeps.specs.declared.visit.Visit.TheVariants.{Sent, Received, Occupied}

-- "confirmed", "indicated", or closed at a stop or bus-off: the size of an object, whether its length has two bytes, the owners and the
-- memory
abbrev pub visit_of : Visit → ℕ → Bool → List Owner → List ℕ → rules.Visit
visit_of Sent size two owners ram = rules.confirmation size ram
visit_of Received size two owners ram = rules.indication size (length_bytes two) ram
visit_of (Occupied c) size two owners ram = rules.closing size owners ram c
