-- The configuration that a driver state has.
use Rattle.rules.specs.State.{State}
use Rattle.rules.specs.Configuration.{Configuration}
use Rattle.rules.specs.Can.{can_format}

abbrev pub configuration_in : State can_format → Configuration can_format
configuration_in s =
    record { controller_count = s.core.controller_count; object_count = s.core.object_count; owners = s.core.owners; settings = s.settings }
