-- The tests of the places, of all settings, of the pools and of all errors are the test of the state.
use mathlib.Core.Path.{ap}
use Rattle.can_state.specs.declared.state.State.TheInside.{Inside}
use Rattle.can_state.proofs.Laws.{valid_parts}
use Rattle.can_state.proofs.validity.valid.Goals as goal

pub returns : goal.returns
returns c =
    let settings = c.settings_places_valid-settings.ensures in
    let core = ap (λ (s : Inside). s.core) c.s-inside.view_is in
    rw (← c.s.view_is, ← c.s-inside.view_is)
    (valid_parts _ settings.places (rw (← core) at c.places_valid-core.ensures) settings.valid c.pools_agree-pooled.ensures c.errors_places_valid-errors.ensures)
