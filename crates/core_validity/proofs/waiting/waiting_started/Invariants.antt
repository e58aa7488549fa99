-- `ok` is the test of all controllers passed.
use mathlib.Core.Path.{◌≡◌}
use Rattle.core_validity.specs.Tests.{waiting_started}
use Rattle.core_validity.proofs.waiting.waiting_started.Given as goal

abbrev pub invariant-loop-c : goal.invariant-loop-c
invariant-loop-c g l = l.ok ≡ waiting_started l.c (g.K.ControllerList.places l.controllers) (g.W.OwnerList.places l.owners) (g.M.MailboxList.places l.mailboxes) l.count
