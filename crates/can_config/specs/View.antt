-- What was read of a configuration, as the rules see it.
use Rattle.rules.specs.Configuration.{Configuration}
use Rattle.rules.specs.Can.{can_format}

abbrev pub view_setup : Configuration can_format → Configuration can_format
view_setup s = s
