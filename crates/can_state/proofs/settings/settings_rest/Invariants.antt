-- `ok` is the test of all places passed, which begin at the count.
use mathlib.Core.Path.{◌≡◌}
use Rattle.rules.specs.Can as can
use Rattle.rules.specs.Configuration.{settings_at}
use Rattle.core_validity.specs.Tests.{all_from}
use Rattle.can_state.proofs.settings.settings_rest.Given as goal

abbrev pub invariant-loop-h : goal.invariant-loop-h
invariant-loop-h g l = l.ok ≡ all_from l.h l.count (λ i. can.settings_unused (settings_at can.can_format l.settings i))
