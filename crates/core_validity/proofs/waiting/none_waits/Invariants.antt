-- `ok` is the test of all objects passed.
use mathlib.Core.Path.{◌≡◌}
use Rattle.core_validity.specs.Tests.{none_waits}
use Rattle.core_validity.proofs.waiting.none_waits.Given as goal

abbrev pub invariant-loop-h : goal.invariant-loop-h
invariant-loop-h g l = l.ok ≡ none_waits (g.W.OwnerList.places l.owners) (g.M.MailboxList.places l.mailboxes) l.h l.c
