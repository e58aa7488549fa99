-- `ok` is the test of all places passed.
use mathlib.Core.Path.{◌≡◌}
use Rattle.can_state.specs.Tests.{settings_suit}
use Rattle.can_state.proofs.settings.settings_suit.Given as goal

abbrev pub invariant-loop-h : goal.invariant-loop-h
invariant-loop-h g l = l.ok ≡ settings_suit l.owners l.settings l.h
