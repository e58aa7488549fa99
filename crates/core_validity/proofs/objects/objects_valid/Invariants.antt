-- `ok` is the test of all places passed; an owner is below the count if it is at most the last byte below it.
use mathlib.Core.Path.{◌≡◌}
use Prim.Native.Nat.{ℕ, ◌-◌, ◌<◌, min}
use Rattle.rules.specs.Core.{owner_at}
use Rattle.core_validity.specs.Tests.{objects_valid}
use Rattle.core_validity.proofs.objects.objects_valid.Given as goal

abbrev pub invariant-loop-h : goal.invariant-loop-h
invariant-loop-h g l = (l.last ≡ min (l.controller_count - 1) 255) × (l.ok ≡ objects_valid l.controller_count (g.W.OwnerList.places l.owners) (g.M.MailboxList.places l.mailboxes) l.h) × ((i : ℕ) → i < l.h → (owner_at (g.W.OwnerList.places l.owners) i).controller < 256)
