-- A controller whose turn is not due leaves all as it was.
use mathlib.Core.Path.{sym, ◌∙◌}
use Rattle.core_polls.specs.Turns.{turn_of}
use Rattle.core_polls.proofs.Turns.{turned_not}
use Rattle.core_polls.proofs.controllers.turn_one.Goals as goal

pub returns-else-turn_due-clause-done : goal.returns-else-turn_due-clause-done
returns-else-turn_due-clause-done g c =
    let a = c.args in
    turned_not (turn_of a.turn) a.size (g.K.CorePlaces.core a.core.now) a.ram.now a.controller a.from a.sheet.now (rw c.read_controller-k.ensures at (sym c.turn_due.ensures ∙ c.if-turn_due.false))
