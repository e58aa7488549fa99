-- The four polls, which look at no frame, on the core. 01, "Services and polls": write, read, mode and bus-off poll. The calls themselves
-- stand in Calls.
use Rattle.std.specs.Prelude.{ℕ, ◌*◌, Bool, true, false, not, cond, ◌&&◌, List, [], ◌∷◌, ◌++◌, set, eqb}
use Rattle.rules.specs.Repeat.{rising}
use Rattle.rules.specs.Bytes.{part}
use Rattle.rules.specs.Head.{identifier_in, length_in, handle_in}
use Rattle.rules.specs.Mode.{STARTED, STOPPED, NO_REQUEST}
use Rattle.rules.specs.Notification.{Notification, tx_confirmation, tx_cancellation, rx_indication, mode_indication, bus_off_indication}
use Rattle.rules.specs.Errors.{Errors, no_errors}
use Rattle.rules.specs.Core.{Controller, Owner, Mailbox, Core, empty_mailbox, controller_at, errors_at, owner_at, mailbox_at, is_started, with_mailboxes, with_errors}
use Rattle.rules.specs.Outcome.{Outcome, no_answer, no_report, rejected, accepted, judged}

-- how far a sweep over the objects has come: the mailboxes, and what was reported so far
pub record Boxes : Type 0 where
  pub mailboxes : List Mailbox
  pub notifications : List Notification

-- how far a sweep over the controllers has come
pub record Sweep : Type 0 where
  pub controllers : List Controller
  pub boxes : Boxes

abbrev pub notify : Notification → Boxes → Boxes
notify n b = record { mailboxes = b.mailboxes; notifications = b.notifications ++ (n ∷ []) }

-- What a poll does at an object: when the object is due, and the notification that tells of it then.
pub record Visit : Type 0 where
  pub due : ℕ → Mailbox → Bool
  pub note : ℕ → Mailbox → Notification

-- where object h is due it is told of and free again; "Freeing changes no byte of memory."
abbrev pub visit_one : Visit → ℕ → Boxes → Boxes
visit_one v h b =
    let m = mailbox_at b.mailboxes h in
    cond (v.due h m) (record { mailboxes = set b.mailboxes h empty_mailbox; notifications = b.notifications ++ (v.note h m ∷ []) }) b

-- "in rising order": the objects in use, of which there are so many
unfoldable pub visit_all : Visit → ℕ → Boxes → Boxes
visit_all v count b = rising count (visit_one v) b

-- The closing notice of an occupied object, by its mailbox alone: object, handle. 02, Q-4: "an occupied object that is gone gets its
-- confirmation (kind 1) .., the others a cancellation."
abbrev pub closing_notification : Mailbox → ℕ → ℕ → Notification
closing_notification m h handle = cond m.tx_done (tx_confirmation h handle) (tx_cancellation h handle)

-- What a poll does at a controller: when its turn is due, whether it leaves the bus then, the notification that tells of it, and what it and
-- its errors are afterwards.
pub record Turn : Type 0 where
  pub due : Controller → Bool
  pub leaves : Controller → Bool
  pub note : ℕ → Controller → Notification
  pub entered : Controller → Controller
  -- of the controller as it was, and of its errors
  pub errors_after : Controller → Errors → Errors

-- "A waiting request is carried out", "skipping those marked off-bus"
abbrev pub takes_request : Controller → Bool
takes_request k = not k.bus_off && not (eqb k.requested_mode NO_REQUEST)

-- "leaving STARTED"
abbrev pub leaves_started : Controller → Bool
leaves_started k = is_started k && not (eqb k.requested_mode STARTED)

-- "A waiting request is carried out and cleared"
abbrev pub entering_request : Controller → Controller
entering_request k = record { mode = k.requested_mode; requested_mode = NO_REQUEST; bus_off = k.bus_off }

-- "the mode becomes STOPPED, mark and waiting request are cleared"
abbrev pub entering_bus_off : Controller → Controller
entering_bus_off k = record { mode = STOPPED; requested_mode = NO_REQUEST; bus_off = false }

-- 02, Q-5: "STARTED, which clears it and sets both counts to zero; other moves .. keep all three"
abbrev pub entering_errors : Controller → Errors → Errors
entering_errors k e = cond (eqb k.requested_mode STARTED) no_errors e

-- 02, Q-5: "A bus-off poll leaves a second mark"
abbrev pub bus_off_errors : Controller → Errors → Errors
bus_off_errors k e = record { recovering = true; tx_errors = e.tx_errors; rx_errors = e.rx_errors }

-- "leaving STARTED cancels and frees every occupied object, rising, before the mode record"; 02, Q-4: those that are gone are confirmed
abbrev pub mode_change : Turn
mode_change =
    record {
      due = takes_request;
      leaves = leaves_started;
      note = λ c k. mode_indication c k.requested_mode;
      entered = entering_request;
      errors_after = entering_errors;
    }

-- "for each marked controller ..: its occupied objects are cancelled and freed, the bus-off record follows, the mode becomes STOPPED"; 02,
-- Q-4: those that are gone are confirmed
abbrev pub going_off : Turn
going_off =
    record {
      due = λ k. k.bus_off;
      leaves = λ k. true;
      note = λ c k. bus_off_indication c;
      entered = entering_bus_off;
      errors_after = bus_off_errors;
    }

-- what a poll leaves of the errors of each controller whose turn is due; nothing is told of them, so they stand beside the sweep
abbrev pub errors_one : Turn → List Controller → ℕ → List Errors → List Errors
errors_one t ks c es = let k = controller_at ks c in cond (t.due k) (set es c (t.errors_after k (errors_at es c))) es

unfoldable pub errors_all : Turn → ℕ → List Controller → List Errors → List Errors
errors_all t count ks es = rising count (errors_one t ks) es

-- where a sweep over the objects, and one over the controllers, begins
abbrev pub boxes_of : Core → Boxes
boxes_of core = record { mailboxes = core.mailboxes; notifications = [] }

abbrev pub sweep_of : Core → Sweep
sweep_of core = record { controllers = core.controllers; boxes = boxes_of core }

-- what a sweep leaves of the core
abbrev pub after_sweep : Core → Sweep → Core
after_sweep core w =
    record {
      initialised = core.initialised;
      controller_count = core.controller_count;
      object_count = core.object_count;
      owners = core.owners;
      controllers = w.controllers;
      mailboxes = w.boxes.mailboxes;
      errors = core.errors;
    }

-- an object has so many bytes of memory
module _ (object_size : ℕ) where
  abbrev pub object_in : List ℕ → ℕ → List ℕ
  object_in ram h = part (object_size * h) object_size ram

  -- "Handles, identifiers and lengths in records are read from the memory lent to that call."
  abbrev pub closing_of : List ℕ → ℕ → Mailbox → Notification
  closing_of ram h m = closing_notification m h (handle_in (object_in ram h))

  -- "Write poll: each gone object .. is confirmed and freed"
  abbrev pub confirmation : List ℕ → Visit
  confirmation ram = record { due = λ h m. m.tx_done; note = closing_of ram }

  -- "Read poll: each full object .. is indicated and emptied."; its length has so many bytes
  abbrev pub indication : ℕ → List ℕ → Visit
  indication length_size ram =
      record {
        due = λ h m. m.rx_full;
        note = λ h m. rx_indication h (identifier_in (object_in ram h)) (length_in length_size (object_in ram h));
      }

  -- a stop or bus-off of controller c: "every occupied object" of it gets its closing notice and is freed
  abbrev pub closing : List Owner → List ℕ → ℕ → Visit
  closing owners ram c = record { due = λ h m. eqb (owner_at owners h).controller c && m.tx_pending; note = closing_of ram }

  -- where a controller's turn is due: if it leaves the bus its objects are closed, then it is told of, and it enters its next mode
  abbrev pub turn_one : Turn → Core → List ℕ → ℕ → Sweep → Sweep
  turn_one t core ram c w =
      let k = controller_at w.controllers c in
      let closed = cond (t.leaves k) (visit_all (closing core.owners ram c) core.object_count w.boxes) w.boxes in
      cond (t.due k) (record { controllers = set w.controllers c (t.entered k); boxes = notify (t.note c k) closed }) w

  -- "controllers in rising order": those in use
  unfoldable pub turn_all : Turn → Core → List ℕ → Sweep
  turn_all t core ram = rising core.controller_count (turn_one t core ram) (sweep_of core)

-- "Polls have no further reason": gate is the reason that the call's gate found
abbrev pub polled : ℕ → Core → List ℕ → Core → List Notification → Outcome Core
polled gate core ram next notes = judged gate (rejected no_report no_answer core ram) (accepted no_answer next ram notes)

-- A poll over the objects, and one over the controllers.
abbrev pub objects_polled : ℕ → Visit → Core → List ℕ → Outcome Core
objects_polled gate v core ram =
    let b = visit_all v core.object_count (boxes_of core) in polled gate core ram (with_mailboxes core b.mailboxes) b.notifications

abbrev pub controllers_polled : ℕ → ℕ → Turn → Core → List ℕ → Outcome Core
controllers_polled gate size t core ram =
    let w = turn_all size t core ram in
    let es = errors_all t core.controller_count core.controllers core.errors in
    polled gate core ram (with_errors (after_sweep core w) es) w.boxes.notifications

-- The polls on the core: the size of an object, for the read poll the bytes of its length, and the gate's reason come first.
unfoldable pub main_function_write : ℕ → ℕ → Core → List ℕ → Outcome Core
main_function_write size gate core ram = objects_polled gate (confirmation size ram) core ram

unfoldable pub main_function_read : ℕ → ℕ → ℕ → Core → List ℕ → Outcome Core
main_function_read size length_size gate core ram = objects_polled gate (indication size length_size ram) core ram

unfoldable pub main_function_mode : ℕ → ℕ → Core → List ℕ → Outcome Core
main_function_mode size gate core ram = controllers_polled gate size mode_change core ram

unfoldable pub main_function_bus_off : ℕ → ℕ → Core → List ℕ → Outcome Core
main_function_bus_off size gate core ram = controllers_polled gate size going_off core ram
