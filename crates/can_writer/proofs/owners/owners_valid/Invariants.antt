-- `ok` is the test of all places passed.
use mathlib.Core.Path.{◌≡◌}
use Rattle.rules.specs.Repeat.{all_below}
use Rattle.rules.specs.Core.{owner_place_valid}
use Rattle.can_writer.proofs.owners.owners_valid.Given as goal

abbrev pub invariant-loop-h : goal.invariant-loop-h
invariant-loop-h g l = l.ok ≡ all_below l.h (owner_place_valid l.controller_count l.object_count l.owners)
