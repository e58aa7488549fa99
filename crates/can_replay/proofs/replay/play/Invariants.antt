-- The first i events were made, and the state is valid.
use Rattle.history.specs.Replay.{whole}
use Rattle.can_state.specs.View.{view}
use Rattle.can_step.specs.Stepped.{Stepped}
use Rattle.can_replay.specs.View.{view_events}
use Rattle.can_replay.proofs.Plays.{played}
use Rattle.can_replay.proofs.replay.play.Given as goal

abbrev pub invariant-loop-i : goal.invariant-loop-i
invariant-loop-i l = Stepped (played (view_events l.events) l.i (whole (view l.initial.state) l.initial.ram l.initial.sheet)) l.state l.ram l.sheet
