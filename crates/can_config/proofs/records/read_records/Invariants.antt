-- The loop's invariant: Init accepts each record passed, and their places are filled.
use mathlib.Core.Path.{◌≡◌}
use mathlib.Core.Bool.{true}
use Rattle.rules.specs.Repeat.{list_below}
use Rattle.rules.specs.Core.{unused_owner}
use Rattle.rules.specs.Can.{unused_settings}
use Rattle.rules.specs.Chip.{chip}
use Rattle.can_config.specs.Reading.{records_valid, owner_said, settings_said}
use Rattle.can_config.proofs.Laws.{filled}
use Rattle.can_config.proofs.records.read_records.Given as goal

abbrev pub invariant-loop-h : goal.invariant-loop-h
invariant-loop-h l =
    record {
      valid : records_valid l.bytes l.version l.controller_count l.h ≡ true;
      owners : l.owners ≡ list_below chip.objects (filled (owner_said l.bytes l.version) unused_owner l.h);
      settings : l.settings ≡ list_below chip.objects (filled (settings_said l.bytes l.version) unused_settings l.h);
    }
