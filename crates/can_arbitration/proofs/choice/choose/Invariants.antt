-- The objects below h are compared.
use Rattle.can_arbitration.proofs.Choices.{Choosing}
use Rattle.can_arbitration.proofs.choice.choose.Given as goal

abbrev pub invariant-loop-h : goal.invariant-loop-h
invariant-loop-h g l = Choosing (g.K.CorePlaces.core l.core) l.controller l.ram l.best l.h
