-- A fault is found exactly in a configuration that Init does not accept.
use Rattle.std.specs.Prelude.{ℕ, ◌≡◌, List, is_ok}
use Rattle.rules.specs.Configuration.{accepted_bytes}
use Rattle.rules.specs.Can.{can_format}
use Rattle.rules.specs.Chip.{chip}
use Rattle.can_faults.specs.Fault.{fault_of}

abbrev pub FaultRule : Type 0
FaultRule = (bytes : List ℕ) → is_ok (fault_of bytes) ≡ accepted_bytes chip can_format bytes
