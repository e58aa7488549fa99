-- Room on the sheet for the one notification of a refused service.
use Rattle.std.specs.Prelude.{ℕ, ◌≤◌, ◌≡◌, true, List, length}
use Rattle.rules.specs.Reason.{is_development_error}
use Rattle.core_layout.specs.Sheet.{words_each}

-- for this reason; the reasons from 32 up, with which a gate says that there is none, ask for no room
pub record Room (reason : ℕ) (sheet : List ℕ) : Type 0 where
  pub has_room : is_development_error reason ≡ true → words_each ≤ length sheet
