-- A core's fields as the rules see them: the view of its model. A struct of arrays stands there as the list of its places.
use Prim.Native.Nat.{ℕ}
use Rattle.rules.specs.Core as rules
use Rattle.core_places.specs.declared.core_state.Core.TheInside.{Inside}

abbrev pub core_seen : {C O : ℕ} → Inside C O → rules.Core
core_seen a =
    record {
      initialised = a.initialised;
      controller_count = a.controller_count;
      object_count = a.object_count;
      owners = a.owners;
      controllers = a.controllers;
      mailboxes = a.mailboxes;
      errors = a.errors;
    }
