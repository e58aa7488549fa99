-- The objects below h are compared.
use Rattle.can_state.specs.View.{state_of}
use Rattle.can_arrivals.proofs.Choices.{Choosing}
use Rattle.can_arrivals.proofs.choice.choose.Given as goal

abbrev pub invariant-loop-h : goal.invariant-loop-h
invariant-loop-h g l = Choosing (state_of (g.K.CorePlaces.core l.core) (g.S.SettingsList.places l.settings)) l.controller l.identifier l.best l.h
