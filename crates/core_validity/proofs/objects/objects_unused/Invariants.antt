-- `ok` is the test of all places passed, which begin at the count.
use mathlib.Core.Path.{◌≡◌}
use mathlib.Core.Bool.{◌&&◌}
use Rattle.rules.specs.Core.{owner_at, mailbox_at, owner_unused, mailbox_empty}
use Rattle.core_validity.specs.Tests.{all_from}
use Rattle.core_validity.proofs.objects.objects_unused.Given as goal

abbrev pub invariant-loop-h : goal.invariant-loop-h
invariant-loop-h g l = l.ok ≡ all_from l.h l.count (λ i. owner_unused (owner_at (g.W.OwnerList.places l.owners) i) && mailbox_empty (mailbox_at (g.M.MailboxList.places l.mailboxes) i))
