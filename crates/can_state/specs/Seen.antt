-- A state's fields as the rules see them: the view of its model.
use Rattle.rules.specs.State as rules
use Rattle.rules.specs.Can.{can_format}
use Rattle.can_state.specs.declared.state.State.TheInside.{Inside}

abbrev pub state_seen : Inside → rules.State can_format
state_seen a = record { core = a.core; settings = a.settings }
