-- A struct of arrays is seen as the list of its places, and the view forgets nothing: two such structs that are seen alike have the same arrays. So
-- no array can be added to one that the rules do not see.
use Prim.Native.Nat.{ℕ}
use mathlib.Core.Path.{◌≡◌, ap, sym, ◌∙◌}
use mathlib.Core.List.{List, map}
use Rattle.rules.specs.Errors.{Errors}
use Rattle.rules.specs.Core.{Controller, Owner, Mailbox}
use Rattle.core_places.specs.declared.core_state.Core.TheInside as core
use Rattle.core_places.specs.Seen.{core_seen}
use Rattle.core_places.specs.Arrays.{Alike, controllers_in, errors_in, owners_in, mailboxes_in}
use Rattle.core_places.specs.Columns.{mode_back, request_back, mark_back, recovering_back, tx_back, rx_back, controller_back, kind_back, pool_back, pending_back, done_back, full_back}
use Rattle.core_places.specs.declared.controllers.Controllers.TheInside as controllers
use Rattle.core_places.specs.declared.error_places.ErrorPlaces.TheInside as errors
use Rattle.core_places.specs.declared.owners.Owners.TheInside as owners
use Rattle.core_places.specs.declared.mailboxes.Mailboxes.TheInside as mailboxes

-- an array that is read off the places in both structs is the same in both
pub same : {P X : Type 0} (field : P → X) {a b : List P} {xs ys : List X} → a ≡ b → map field a ≡ xs → map field b ≡ ys → xs ≡ ys
same field e p q = sym p ∙ ap (map field) e ∙ q

pub controllers_injective : {N : ℕ} (a b : controllers.Inside N) → Alike a.modes a.requests a.marks → Alike b.modes b.requests b.marks
    → controllers_in a.modes a.requests a.marks ≡ controllers_in b.modes b.requests b.marks → a ≡ b
controllers_injective a b m n e =
    λ i.
    record {
      modes = same (λ (k : Controller). k.mode) e (mode_back a.modes a.requests a.marks m) (mode_back b.modes b.requests b.marks n) i;
      requests = same (λ (k : Controller). k.requested_mode) e (request_back a.modes a.requests a.marks m) (request_back b.modes b.requests b.marks n) i;
      marks = same (λ (k : Controller). k.bus_off) e (mark_back a.modes a.requests a.marks m) (mark_back b.modes b.requests b.marks n) i;
    }

pub errors_injective : {N : ℕ} (a b : errors.Inside N) → Alike a.recoverings a.tx_errors a.rx_errors → Alike b.recoverings b.tx_errors b.rx_errors
    → errors_in a.recoverings a.tx_errors a.rx_errors ≡ errors_in b.recoverings b.tx_errors b.rx_errors → a ≡ b
errors_injective a b m n e =
    λ i.
    record {
      recoverings = same (λ (x : Errors). x.recovering) e (recovering_back a.recoverings a.tx_errors a.rx_errors m) (recovering_back b.recoverings b.tx_errors b.rx_errors n) i;
      tx_errors = same (λ (x : Errors). x.tx_errors) e (tx_back a.recoverings a.tx_errors a.rx_errors m) (tx_back b.recoverings b.tx_errors b.rx_errors n) i;
      rx_errors = same (λ (x : Errors). x.rx_errors) e (rx_back a.recoverings a.tx_errors a.rx_errors m) (rx_back b.recoverings b.tx_errors b.rx_errors n) i;
    }

pub owners_injective : {N : ℕ} (a b : owners.Inside N) → Alike a.controllers a.receivings a.pools → Alike b.controllers b.receivings b.pools
    → owners_in a.controllers a.receivings a.pools ≡ owners_in b.controllers b.receivings b.pools → a ≡ b
owners_injective a b m n e =
    λ i.
    record {
      controllers = same (λ (o : Owner). o.controller) e (controller_back a.controllers a.receivings a.pools m) (controller_back b.controllers b.receivings b.pools n) i;
      receivings = same (λ (o : Owner). o.receiving) e (kind_back a.controllers a.receivings a.pools m) (kind_back b.controllers b.receivings b.pools n) i;
      pools = same (λ (o : Owner). o.pool) e (pool_back a.controllers a.receivings a.pools m) (pool_back b.controllers b.receivings b.pools n) i;
    }

pub mailboxes_injective : {N : ℕ} (a b : mailboxes.Inside N) → Alike a.pendings a.dones a.fulls → Alike b.pendings b.dones b.fulls
    → mailboxes_in a.pendings a.dones a.fulls ≡ mailboxes_in b.pendings b.dones b.fulls → a ≡ b
mailboxes_injective a b m n e =
    λ i.
    record {
      pendings = same (λ (x : Mailbox). x.tx_pending) e (pending_back a.pendings a.dones a.fulls m) (pending_back b.pendings b.dones b.fulls n) i;
      dones = same (λ (x : Mailbox). x.tx_done) e (done_back a.pendings a.dones a.fulls m) (done_back b.pendings b.dones b.fulls n) i;
      fulls = same (λ (x : Mailbox). x.rx_full) e (full_back a.pendings a.dones a.fulls m) (full_back b.pendings b.dones b.fulls n) i;
    }

-- So it is of a core's fields, where each struct of arrays stands as the list of its places.
pub core_injective : {C O : ℕ} (a b : core.Inside C O) → core_seen a ≡ core_seen b → a ≡ b
core_injective a b e =
    λ i.
    record {
      initialised = (e i).initialised;
      controller_count = (e i).controller_count;
      object_count = (e i).object_count;
      controllers = (e i).controllers;
      errors = (e i).errors;
      owners = (e i).owners;
      mailboxes = (e i).mailboxes;
    }
