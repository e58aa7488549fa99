-- A pool by its number, whichever object names it.
use Rattle.std.specs.Prelude.{ℕ, Bool, not, ◌&&◌}
use Rattle.rules.specs.Core.{Core, in_pool, mailbox_at}

-- object i is a member of the pool with this number, and free
abbrev pub free_of_pool : Core → ℕ → ℕ → Bool
free_of_pool core pool i = in_pool core.owners pool i && not (mailbox_at core.mailboxes i).tx_pending
