-- The checks on what is read of a core are the rules' own.
use Prim.Native.Nat.{ℕ}
use mathlib.Core.Path.{◌≡◌}
use mathlib.Core.Bool.{Bool, not, ◌&&◌}
use lib.Dec.{ltb}
use Rattle.rules.specs.Reason.{first_reason}
use Rattle.rules.specs.Core.{Controller, Owner, Mailbox, Core, controller_at, owner_at, mailbox_at}
use Rattle.rules.specs.Events as rules
use Rattle.rules.specs.Events.{tx_complete_checks}
use Rattle.core_events.specs.Checks.{sent_checks, on_bus_checks}

-- of an object
pub sent_read : (core : Core) (h : ℕ) {i : Bool} {n : ℕ} {o : Owner} {k : Controller} {m : Mailbox}
    → i ≡ core.initialised → n ≡ core.object_count → o ≡ owner_at core.owners h → k ≡ controller_at core.controllers o.controller → m ≡ mailbox_at core.mailboxes h
    → first_reason (sent_checks i (ltb h n && not o.receiving) m k) ≡ first_reason (tx_complete_checks core h)
sent_read core h begun count owner controller mailbox = rw (mailbox, controller, owner, count, begun)

-- of a controller
pub on_bus_read : (core : Core) (c : ℕ) {i : Bool} {n : ℕ} {k : Controller} → i ≡ core.initialised → n ≡ core.controller_count → k ≡ controller_at core.controllers c
    → first_reason (on_bus_checks i (ltb c n) k) ≡ first_reason (rules.on_bus_checks core c)
on_bus_read core c begun count seen = rw (seen, count, begun)
