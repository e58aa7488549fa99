-- The loop's invariant: behind the header stand the records of the objects passed.
use mathlib.Core.Path.{◌≡◌}
use lib.ListN.{length}
use Rattle.rules.specs.Repeat.{concat_below}
use Rattle.rules.specs.Bytes.{splice}
use Rattle.rules.specs.Configuration.{header_size}
use Rattle.can_writer.specs.Records.{record_at}
use Rattle.can_writer.proofs.records.put_records.Given as goal

abbrev pub invariant-loop-h : goal.invariant-loop-h
invariant-loop-h l =
    (length l.buffer ≡ length l.initial.buffer)
    × (l.buffer ≡ splice header_size (concat_below l.h (record_at l.version l.setup.owners l.setup.settings)) l.initial.buffer)
