-- What a poll does at a controller, as the rules have it.
use Rattle.rules.specs.Polls as rules
use Rattle.core_polls.specs.declared.turn.Turn.{Turn}
use Rattle.core_polls.specs.declared.turn.Turn.TheVariants.{ModeChange, GoingOff}

-- the mode poll's turn, and the bus-off poll's
abbrev pub turn_of : Turn → rules.Turn
turn_of ModeChange = rules.mode_change
turn_of GoingOff = rules.going_off
