-- A core put together from lists of places.
use Rattle.std.specs.Prelude.{ℕ, Bool, List}
use Rattle.rules.specs.Errors.{Errors}
use Rattle.rules.specs.Core.{Core, Controller, Owner, Mailbox}

abbrev pub seen : Bool → ℕ → ℕ → List Controller → List Errors → List Owner → List Mailbox → Core
seen initialised controller_count object_count ks es os ms =
    record {
      initialised = initialised;
      controller_count = controller_count;
      object_count = object_count;
      owners = os;
      controllers = ks;
      mailboxes = ms;
      errors = es;
    }
