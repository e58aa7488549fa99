-- A controller that stays on the bus has nothing closed.
use Rattle.core_polls.proofs.Turns.{closed_none}
use Rattle.core_polls.proofs.controllers.close_if.Goals as goal

pub returns-else-leaves-clause-told : goal.returns-else-leaves-clause-told
returns-else-leaves-clause-told g c = let a = c.args in closed_none a.leaves a.size (g.K.CorePlaces.core a.core.now) a.ram.now a.controller a.from a.sheet.now c.if-leaves.false
