use Rattle.history.specs.Replay.{whole}
use Rattle.can_state.specs.View.{view}
use Rattle.can_replay.specs.View.{view_events}
use Rattle.can_replay.proofs.Plays.{plays_go_on}
use Rattle.can_replay.proofs.replay.play.Goals as goal

pub loop-i-preserved : goal.loop-i-preserved
loop-i-preserved c =
    let a = c.args in
    plays_go_on (view_events a.events.now) c.loop-i.i (whole (view a.state.now) a.ram.now a.sheet.now) c.loop-i.invariant c.event.ensures
