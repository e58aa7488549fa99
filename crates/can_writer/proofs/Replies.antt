-- What each of the writer's answers owes.
use Prim.Native.Nat.{ℕ, ◌≤◌, ◌<◌}
use mathlib.Core.Path.{◌≡◌}
use Rattle.std.specs.Prelude.{Ok, Err}
use mathlib.Core.Bool.{true, false}
use mathlib.Core.List.{List}
use lib.ListN.{length}
use borrow.Author.Tests.{lt-ltb, le-ltb}
use Rattle.rules.specs.Reason.{first_reason}
use Rattle.rules.specs.Bytes.{splice}
use Rattle.rules.specs.Configuration.{Configuration}
use Rattle.rules.specs.Writer.{can_say, configuration_bytes, written_size, writer_reason, buffer_after}
use Rattle.rules.specs.Can.{can_format}
use Rattle.rules.specs.Chip.{chip}
use Rattle.core_answers.specs.declared.rejection.Rejection.TheVariants.{InitFailed, SheetTooShort}
use Rattle.can_writer.specs.Reply.{ConfigWritten}

module _ (version : ℕ) (c : Configuration can_format) (before : List ℕ) where
  -- 9
  pub not_said : can_say chip can_format version c ≡ false → ConfigWritten version c before before (Err InitFailed)
  unfolding writer_reason buffer_after first_reason
  not_said t = record { reason_is = rw t; size_is = rw t; buffer_is = rw t }

  module _ (said : can_say chip can_format version c ≡ true) where
    -- 32
    pub too_short : length before < written_size chip can_format c → ConfigWritten version c before before (Err SheetTooShort)
    unfolding writer_reason buffer_after first_reason
    too_short l =
        let short = lt-ltb (length before) (written_size chip can_format c) l in
        record { reason_is = rw (said, short); size_is = rw (said, short); buffer_is = rw (said, short) }

    pub written : written_size chip can_format c ≤ length before → {after : List ℕ} → after ≡ splice 0 (configuration_bytes chip can_format version c) before
        → ConfigWritten version c before after (Ok (written_size chip can_format c))
    unfolding writer_reason buffer_after first_reason
    written l e =
        let fits = le-ltb (length before) (written_size chip can_format c) l in
        record { reason_is = rw (said, fits); size_is = rw (said, fits); buffer_is = rw (said, fits) e }
