-- A configuration's fields as the rules see them: the view of its model.
use Rattle.rules.specs.Configuration.{Configuration}
use Rattle.rules.specs.Can.{can_format}
use Rattle.can_config.specs.declared.setup.Setup.TheInside.{Inside}

abbrev pub setup_seen : Inside → Configuration can_format
setup_seen a = record { controller_count = a.controller_count; object_count = a.object_count; owners = a.owners; settings = a.settings }
