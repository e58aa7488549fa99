-- What Write owes of the core: its reason, the object that took the frame, and the core afterwards.
use Rattle.std.specs.Prelude.{ℕ, ◌≡◌, cond, eqb}
use Rattle.rules.specs.Reason.{◌then◌}
use Rattle.rules.specs.Core.{Core, free_member}
use Rattle.rules.specs.Outcome.{Answer, no_answer, taken_by}
use Rattle.rules.specs.Services.{write_reason, taken}

-- object h of the core; the reasons that the gate and the frame give; then what the call gave
pub record WriteTaken (core : Core) (h gate frame reason : ℕ) (answer : Answer) (after : Core) : Type 0 where
  pub reason_is : reason ≡ (gate then write_reason core h frame)
  pub answer_is : answer ≡ cond (eqb reason 0) (taken_by (free_member core h)) no_answer
  pub core_is : after ≡ cond (eqb reason 0) (taken core (free_member core h)) core
