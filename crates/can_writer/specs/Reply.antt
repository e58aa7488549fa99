-- The paper's values for every case of the writer's answer, and what the writer owes.
use Rattle.std.specs.Prelude.{ℕ, ◌≡◌, cond, List, eqb, length, Result, Ok, Err}
use Rattle.rules.specs.Configuration.{Configuration}
use Rattle.rules.specs.Writer.{written_size, writer_reason, buffer_after}
use Rattle.rules.specs.Can.{can_format}
use Rattle.rules.specs.Chip.{chip}
use Rattle.core_answers.specs.Answer.{verdict_reason}
use Rattle.core_answers.specs.declared.rejection.Rejection.{Rejection}

-- how many bytes were written
abbrev pub config_size : Result ℕ Rejection → ℕ
config_size (Ok size) = size
config_size (Err r) = 0

-- the reason, the number of bytes written and every byte of the buffer are those of the rules
pub record ConfigWritten (version : ℕ) (c : Configuration can_format) (before after : List ℕ) (r : Result ℕ Rejection) : Type 0 where
  pub reason_is : verdict_reason r ≡ writer_reason chip can_format version c (length before)
  pub size_is : config_size r ≡ cond (eqb (writer_reason chip can_format version c (length before)) 0) (written_size chip can_format c) 0
  pub buffer_is : after ≡ buffer_after chip can_format version c before
