-- A place as the rules see it: each field of a struct is the field of the same name.
use Rattle.std.specs.Prelude.{ℕ}
use Rattle.rules.specs.Core as rules
use Rattle.rules.specs.Limits.{Limits}
use Rattle.rules.specs.Errors as errors
use Rattle.core_places.specs.declared.controller.Controller.{Controller}
use Rattle.core_places.specs.declared.errors.Errors.{Errors}
use Rattle.core_places.specs.declared.owner.Owner.{Owner}
use Rattle.core_places.specs.declared.mailbox.Mailbox.{Mailbox}

abbrev pub view_controller : Controller → rules.Controller
view_controller k = record { mode = k.mode; requested_mode = k.requested_mode; bus_off = k.bus_off }

abbrev pub view_errors : Errors → errors.Errors
view_errors e = record { recovering = e.recovering; tx_errors = e.tx_errors; rx_errors = e.rx_errors }

abbrev pub view_owner : Owner → rules.Owner
view_owner o = record { controller = o.controller; receiving = o.receiving; pool = o.pool }

abbrev pub view_mailbox : Mailbox → rules.Mailbox
view_mailbox m = record { tx_pending = m.tx_pending; tx_done = m.tx_done; rx_full = m.rx_full }

-- clauses see a core as its model shows it (`core_seen`)
abbrev pub view_core : rules.Core → rules.Core
view_core core = core

-- so many places for controllers and for objects; a core has no bytes, so their sizes are not looked at
abbrev pub limits_of : ℕ → ℕ → Limits
limits_of controllers objects = record { controllers = controllers; objects = objects; object_size = 0; length_size = 0 }
