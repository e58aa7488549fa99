-- Counts that do not suit refuse the core; else the tests of its parts make up the test of all places.
use mathlib.Core.Path.{◌≡◌}
use mathlib.Core.Bool.{true, false}
use Rattle.rules.specs.Core.{Core}
use Rattle.core_places.specs.View.{limits_of}
use Rattle.core_validity.specs.Tests.{counts_suit}
use Rattle.core_validity.proofs.Parts.{counts_none, counts_fit, counts_refuse, initialised_parts, uninitialised_parts}
use Rattle.core_validity.proofs.validity.lists_valid.Goals as goal

pub returns-then-not-counts : goal.returns-then-not-counts
returns-then-not-counts g c errors =
    let a = c.args in
    let C = g.K.ControllerList.size a.controllers.now in
    let O = g.W.OwnerList.size a.owners.now in
    let core : Core = record { initialised = a.initialised; controller_count = a.controller_count; object_count = a.object_count; owners = g.W.OwnerList.places a.owners.now; controllers = g.K.ControllerList.places a.controllers.now; mailboxes = g.M.MailboxList.places a.mailboxes.now; errors = errors } in
    let off : counts_suit (limits_of C O) a.initialised a.controller_count a.object_count ≡ false =
    rw (c.counts_suit-counts.ensures, c.len-controller_places.ensures.number, c.len-object_places.ensures.number) at c.if-not-counts.true
    in
    counts_refuse C O core c.len-controller_places.ensures.places c.len-object_places.ensures.places (rw c.requires at c.len.ensures.places) off

pub returns-then-not-initialised : goal.returns-then-not-initialised
returns-then-not-initialised g c errors =
    let a = c.args in
    let C = g.K.ControllerList.size a.controllers.now in
    let O = g.W.OwnerList.size a.owners.now in
    let core : Core = record { initialised = a.initialised; controller_count = a.controller_count; object_count = a.object_count; owners = g.W.OwnerList.places a.owners.now; controllers = g.K.ControllerList.places a.controllers.now; mailboxes = g.M.MailboxList.places a.mailboxes.now; errors = errors } in
    let suits : counts_suit (limits_of C O) a.initialised a.controller_count a.object_count ≡ true =
    rw (c.counts_suit-counts.ensures, c.len-controller_places.ensures.number, c.len-object_places.ensures.number) at c.if-not-counts.false
    in
    let none = counts_none C O a.controller_count a.object_count a.initialised suits c.if-not-initialised.true in
    rw (c.controllers_idle-idle.ensures, c.objects_unused-unused.ensures)
    (uninitialised_parts C O core c.len-controller_places.ensures.places c.len-object_places.ensures.places (rw c.requires at c.len.ensures.places) suits none.0 none.1)

pub returns : goal.returns
returns g c errors =
    let a = c.args in
    let C = g.K.ControllerList.size a.controllers.now in
    let O = g.W.OwnerList.size a.owners.now in
    let core : Core = record { initialised = a.initialised; controller_count = a.controller_count; object_count = a.object_count; owners = g.W.OwnerList.places a.owners.now; controllers = g.K.ControllerList.places a.controllers.now; mailboxes = g.M.MailboxList.places a.mailboxes.now; errors = errors } in
    let suits : counts_suit (limits_of C O) a.initialised a.controller_count a.object_count ≡ true =
    rw (c.counts_suit-counts.ensures, c.len-controller_places.ensures.number, c.len-object_places.ensures.number) at c.if-not-counts.false
    in
    let fit = counts_fit C O a.controller_count a.object_count a.initialised suits in
    rw (
      c.controllers_idle-idle.ensures,
      c.objects_unused-unused.ensures,
      c.controllers_valid-valid.ensures,
      c.objects_valid-objects.ensures.valid,
      c.waiting_started-waiting.ensures,
    )
    (initialised_parts C O core c.len-controller_places.ensures.places c.len-object_places.ensures.places (rw c.requires at c.len.ensures.places) suits fit.0 fit.1 c.objects_valid-objects.ensures.bytes)
