-- The driver state as the rules see it.
use Rattle.std.specs.Prelude.{List}
use Rattle.rules.specs.State as rules
use Rattle.rules.specs.Core as core
use Rattle.rules.specs.Can as can
use Rattle.can_state.specs.declared.settings.Settings.{Settings}

abbrev pub view_settings : Settings → can.Settings
view_settings s = record { payload = s.payload; padding = s.padding; code = s.code; mask = s.mask }

-- clauses see a state as its model shows it (`state_seen`)
abbrev pub view : rules.State can.can_format → rules.State can.can_format
view s = s

-- a state whose core and settings stand apart
abbrev pub state_of : core.Core → List can.Settings → rules.State can.can_format
state_of core settings = record { core = core; settings = settings }
