-- `ok` is the test of all objects passed.
use mathlib.Core.Path.{◌≡◌}
use Rattle.rules.specs.Repeat.{all_below}
use Rattle.rules.specs.Writer.{record_sayable}
use Rattle.rules.specs.Can.{can_format}
use Rattle.rules.specs.Chip.{chip}
use Rattle.can_config.specs.View.{view_setup}
use Rattle.can_writer.proofs.sayable.records_say.Given as goal

abbrev pub invariant-loop-h : goal.invariant-loop-h
invariant-loop-h l = l.ok ≡ all_below l.h (record_sayable chip can_format l.version (view_setup l.setup))
