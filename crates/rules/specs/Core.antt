-- The core of the driver state: who owns each object, and what waits where. It never sees a frame, so that every kind of frame has the
-- same one. 01, "What the bench is made of"; valid is 01's sound.
use Rattle.std.specs.Prelude.{ℕ, Bool, false, not, cond, ◌&&◌, ◌||◌, List, length, get_or, replicate, eqb, ltb, leb}
use Rattle.rules.specs.Limits.{Limits}
use Rattle.rules.specs.Mode.{UNINIT, STARTED, SLEEP, NO_REQUEST, permitted}
use Rattle.rules.specs.Repeat.{all_below, lowest_or}
use Rattle.rules.specs.Errors.{Errors, no_errors, errors_none, within_limit, above_bus_off, error_state_of}

-- "its mode, a waiting request (none or a mode) and an off-bus mark"
pub record Controller : Type 0 where
  pub mode : ℕ
  pub requested_mode : ℕ
  pub bus_off : Bool

-- whose an object is, and its kind: "controller .., kind (0 sending, 1 receiving)"; and 02's "pool number" of a sending one
pub record Owner : Type 0 where
  pub controller : ℕ
  pub receiving : Bool
  -- 0 of a receiving object
  pub pool : ℕ

-- "per sending object occupied and gone; per receiving object full"
pub record Mailbox : Type 0 where
  -- "occupied": a written frame waits for its closing notification
  pub tx_pending : Bool
  -- "gone": the frame was sent, its confirmation is due
  pub tx_done : Bool
  -- "full": a received frame waits to be read
  pub rx_full : Bool

pub record Core : Type 0 where
  pub initialised : Bool
  -- so many are in use
  pub controller_count : ℕ
  pub object_count : ℕ
  -- a place for each object
  pub owners : List Owner
  -- a place for each controller
  pub controllers : List Controller
  -- a place for each object
  pub mailboxes : List Mailbox
  -- a place for each controller
  pub errors : List Errors

-- A place at rest: everything zero, none or clear.
abbrev pub idle_controller : Controller
idle_controller = record { mode = UNINIT; requested_mode = NO_REQUEST; bus_off = false }

abbrev pub unused_owner : Owner
unused_owner = record { controller = 0; receiving = false; pool = 0 }

abbrev pub empty_mailbox : Mailbox
empty_mailbox = record { tx_pending = false; tx_done = false; rx_full = false }

abbrev pub controller_idle : Controller → Bool
controller_idle k = eqb k.mode UNINIT && eqb k.requested_mode NO_REQUEST && not k.bus_off

abbrev pub owner_unused : Owner → Bool
owner_unused o = eqb o.controller 0 && not o.receiving && eqb o.pool 0

abbrev pub mailbox_empty : Mailbox → Bool
mailbox_empty m = not m.tx_pending && not m.tx_done && not m.rx_full

abbrev pub controller_at : List Controller → ℕ → Controller
controller_at ks c = get_or ks c idle_controller

abbrev pub errors_at : List Errors → ℕ → Errors
errors_at es c = get_or es c no_errors

abbrev pub owner_at : List Owner → ℕ → Owner
owner_at os h = get_or os h unused_owner

abbrev pub mailbox_at : List Mailbox → ℕ → Mailbox
mailbox_at ms h = get_or ms h empty_mailbox

abbrev pub is_started : Controller → Bool
is_started k = eqb k.mode STARTED

-- the error state of a controller. 02, Q-5: "The state is bus-off also while the off-bus mark stands.", and the second mark "keeps the
-- state bus-off until STARTED"
abbrev pub error_state : Controller → Errors → ℕ
error_state k e = error_state_of (k.bus_off || e.recovering) e.tx_errors e.rx_errors

-- What the checks of several calls ask

abbrev pub in_use : Core → ℕ → Bool
in_use core c = ltb c core.controller_count

-- "a configured sending object"
abbrev pub is_sending : Core → ℕ → Bool
is_sending core h = ltb h core.object_count && not (owner_at core.owners h).receiving

-- the controller that an object belongs to
abbrev pub controller_of : Core → ℕ → Controller
controller_of core h = controller_at core.controllers (owner_at core.owners h).controller

-- Pools. 02, Q-2: "links transmit objects into one pool"

-- object i is a member of the pool with this number
abbrev pub in_pool : List Owner → ℕ → ℕ → Bool
in_pool os pool i = not (owner_at os i).receiving && eqb (owner_at os i).pool pool

-- "its lowest object": the lowest member of the pool of object h, which is a member itself
abbrev pub lowest_of : List Owner → ℕ → ℕ
lowest_of os h = lowest_or h (in_pool os (owner_at os h).pool) h

-- "Write names the pool by its lowest object"
abbrev pub names_pool : Core → ℕ → Bool
names_pool core h = is_sending core h && eqb (lowest_of core.owners h) h

-- object i is a member of the pool of object h, and free
abbrev pub free_in_pool : Core → ℕ → ℕ → Bool
free_in_pool core h i = in_pool core.owners (owner_at core.owners h).pool i && not (mailbox_at core.mailboxes i).tx_pending

-- "the lowest free member" of the pool of object h; h itself where none is free
abbrev pub free_member : Core → ℕ → ℕ
free_member core h = lowest_or core.object_count (free_in_pool core h) h

-- What a call changes

abbrev pub with_controllers : Core → List Controller → Core
with_controllers core ks =
    record {
      initialised = core.initialised;
      controller_count = core.controller_count;
      object_count = core.object_count;
      owners = core.owners;
      controllers = ks;
      mailboxes = core.mailboxes;
      errors = core.errors;
    }

abbrev pub with_mailboxes : Core → List Mailbox → Core
with_mailboxes core ms =
    record {
      initialised = core.initialised;
      controller_count = core.controller_count;
      object_count = core.object_count;
      owners = core.owners;
      controllers = core.controllers;
      mailboxes = ms;
      errors = core.errors;
    }

abbrev pub with_errors : Core → List Errors → Core
with_errors core es =
    record {
      initialised = core.initialised;
      controller_count = core.controller_count;
      object_count = core.object_count;
      owners = core.owners;
      controllers = core.controllers;
      mailboxes = core.mailboxes;
      errors = es;
    }

-- When a core is valid

-- "mode 1 to 3, a waiting request is permitted from the present mode, off-bus stands only on a STARTED controller"
abbrev pub controller_valid : Controller → Bool
controller_valid k =
    leb STARTED k.mode && leb k.mode SLEEP
    && (eqb k.requested_mode NO_REQUEST || permitted k.mode k.requested_mode)
    && (not k.bus_off || is_started k)

-- 02, Q-5: "A sound state has counts up to 65,535, above 255 for transmit only with one of the two marks; the second never stands on a
-- STARTED controller."
abbrev pub errors_valid : Controller → Errors → Bool
errors_valid k e =
    within_limit e.tx_errors e.rx_errors
    && (not (above_bus_off e.tx_errors) || (k.bus_off || e.recovering))
    && (not e.recovering || not (is_started k))

-- "controller (below the count)"
abbrev pub owner_valid : ℕ → Owner → Bool
owner_valid controller_count o = ltb o.controller controller_count

-- of object h: a "pool number, 0 to 31", one for each place; "Objects with one pool number must agree in controller", each with the lowest
-- one; a receiving object is in no pool
abbrev pub pool_valid : ℕ → List Owner → ℕ → Bool
pool_valid places os h =
    let o = owner_at os h in
    cond o.receiving (eqb o.pool 0) (ltb o.pool places && eqb o.controller (owner_at os (lowest_of os h)).controller)

-- "occupied only on a configured sending object of a STARTED controller, gone only with occupied, full only on a configured receiving object"
abbrev pub mailbox_valid : Bool → Bool → Mailbox → Bool
mailbox_valid receiving started m =
    (not m.tx_pending || not receiving && started)
    && (not m.tx_done || m.tx_pending)
    && (not m.rx_full || receiving)

-- a place in use is valid, any other is at rest
abbrev pub controller_place_valid : Core → ℕ → Bool
controller_place_valid core c =
    cond (ltb c core.controller_count) (controller_valid (controller_at core.controllers c)) (controller_idle (controller_at core.controllers c))

abbrev pub errors_place_valid : Core → ℕ → Bool
errors_place_valid core c =
    cond (ltb c core.controller_count) (errors_valid (controller_at core.controllers c) (errors_at core.errors c))
    (errors_none (errors_at core.errors c))

-- so many controllers and objects are in use
abbrev pub owner_place_valid : ℕ → ℕ → List Owner → ℕ → Bool
owner_place_valid controller_count object_count os h =
    cond (ltb h object_count) (owner_valid controller_count (owner_at os h)) (owner_unused (owner_at os h))

abbrev pub mailbox_place_valid : Core → ℕ → Bool
mailbox_place_valid core h =
    cond (ltb h core.object_count)
    (mailbox_valid (owner_at core.owners h).receiving (is_started (controller_of core h)) (mailbox_at core.mailboxes h))
    (mailbox_empty (mailbox_at core.mailboxes h))

-- before Init nothing is in use
abbrev pub nothing_in_use : Core → Bool
nothing_in_use core = eqb core.controller_count 0 && eqb core.object_count 0

module _ (L : Limits) where
  -- there is a place for each controller and each object
  abbrev pub has_places : Core → Bool
  has_places core =
      eqb (length core.controllers) L.controllers
      && eqb (length core.owners) L.objects
      && eqb (length core.mailboxes) L.objects

  -- "controllers (1 to 4), objects n (0 to 32)"
  abbrev pub counts_valid : ℕ → ℕ → Bool
  counts_valid controller_count object_count = leb 1 controller_count && leb controller_count L.controllers && leb object_count L.objects

  abbrev pub owners_valid : ℕ → ℕ → List Owner → Bool
  owners_valid controller_count object_count os =
      all_below L.objects (owner_place_valid controller_count object_count os) && all_below object_count (pool_valid L.objects os)

  abbrev pub all_errors_valid : Core → Bool
  all_errors_valid core = eqb (length core.errors) L.controllers && all_below L.controllers (errors_place_valid core)

  -- "uninitialised with everything else at rest ..; or its configuration is one that Init accepts, .. and unused places are at rest": all of
  -- it but what the configuration says of frames
  unfoldable pub core_valid : Core → Bool
  core_valid core =
      has_places core
      && cond core.initialised (counts_valid core.controller_count core.object_count) (nothing_in_use core)
      && owners_valid core.controller_count core.object_count core.owners
      && all_below L.controllers (controller_place_valid core)
      && all_below L.objects (mailbox_place_valid core)
      && all_errors_valid core

  -- before Init: nothing in use, everything at rest
  abbrev pub initial_core : Core
  initial_core =
      record {
        initialised = false;
        controller_count = 0;
        object_count = 0;
        owners = replicate L.objects unused_owner;
        controllers = replicate L.controllers idle_controller;
        mailboxes = replicate L.objects empty_mailbox;
        errors = replicate L.controllers no_errors;
      }
