-- What calls may change in the errors of a valid core.
use Prim.Native.Nat.{ℕ, ◌≤◌, ◌<◌}
use mathlib.Core.Path.{◌≡◌, refl, sym, ◌∙◌}
use mathlib.Core.Bool.{Bool, true, false, not, cond, ◌&&◌, ◌||◌, or-true}
use mathlib.Core.List.{List}
use mathlib.Core.Logic.{◌⊎◌, inl, inr}
use native.Mathlib.Omega.{arith}
use native.Mathlib.Decide.{ℕ_discrete}
use lib.ListN.{length, set, length-set}
use lib.Seq.{get_or-set_same, get_or-set_other}
use lib.Dec.{eqb, ltb}
use borrow.Author.Tests.{ltb-true, ltb-false, lt-ltb}
use Rattle.rules.specs.Limits.{Limits}
use Rattle.rules.specs.Errors.{Errors, no_errors, errors_none, within_limit, above_bus_off}
use Rattle.rules.specs.Core.{Controller, Core, idle_controller, controller_at, errors_at, is_started, with_controllers, with_errors, errors_valid}
use Rattle.rules.specs.Mode.{STARTED}
use Rattle.rules.specs.Polls.{entering_request, entering_bus_off, entering_errors, bus_off_errors}
use Rattle.rules.specs.Events.{marked_bus_off, counted_controller, counted_errors}
use Rattle.laws.proofs.Tests.{both, left, right, clash, decide}
use Rattle.laws.proofs.Validity.{Valid, ErrorsValid}
use Rattle.laws.proofs.Changes.{controllers_within}

-- the parts of the test of one controller's errors
pub record ErrorFacts (k : Controller) (e : Errors) : Type 0 where
  pub limited : within_limit e.tx_errors e.rx_errors ≡ true
  pub marked : (not (above_bus_off e.tx_errors) || (k.bus_off || e.recovering)) ≡ true
  pub not_started : (not e.recovering || not (is_started k)) ≡ true

pub errors_facts : (k : Controller) (e : Errors) → errors_valid k e ≡ true → ErrorFacts k e
errors_facts k e v =
    let limits = within_limit e.tx_errors e.rx_errors in
    let marks = not (above_bus_off e.tx_errors) || (k.bus_off || e.recovering) in
    let starts = not e.recovering || not (is_started k) in
    record {
      limited = left limits marks (left (limits && marks) starts v);
      marked = right limits marks (left (limits && marks) starts v);
      not_started = right (limits && marks) starts v;
    }

-- "the second never stands on a STARTED controller"
pub started_not_recovering : (k : Controller) (e : Errors) → errors_valid k e ≡ true → is_started k ≡ true → e.recovering ≡ false
started_not_recovering k e v st = go e.recovering (rw st at (errors_facts k e v).not_started)
  where
    go : (r : Bool) → (not r || false) ≡ true → r ≡ false
    go true p = clash refl (sym p)
    go false p = refl

-- a mark may be set on a controller that is not recovering
pub marked_valid : (k : Controller) (e : Errors) → errors_valid k e ≡ true → errors_valid (marked_bus_off k) e ≡ true
marked_valid k e v = let f = errors_facts k e v in both (both f.limited (or-true (not (above_bus_off e.tx_errors)))) f.not_started

-- counts within their limit suit a STARTED controller, which is marked where the transmit count is above 255
pub counted_valid : (tx rx : ℕ) (k : Controller) (e : Errors) → errors_valid k e ≡ true → is_started k ≡ true → within_limit tx rx ≡ true
    → errors_valid (counted_controller tx k) (counted_errors tx rx e) ≡ true
counted_valid tx rx k e v st within = go (above_bus_off tx) refl
  where
    go : (above : Bool) → above_bus_off tx ≡ above → errors_valid (counted_controller tx k) (counted_errors tx rx e) ≡ true
    go true a = rw (a, started_not_recovering k e v st) (both (both within refl) refl)
    go false a = rw (a, started_not_recovering k e v st) (both (both within refl) refl)

-- what a mode poll leaves suits the controller that it moves, marked or not
pub entering_errors_valid : (k : Controller) (e : Errors) → errors_valid k e ≡ true → errors_valid (entering_request k) (entering_errors k e) ≡ true
entering_errors_valid k e v = go (eqb k.requested_mode STARTED) refl
  where
    go : (starts : Bool) → eqb k.requested_mode STARTED ≡ starts → errors_valid (entering_request k) (entering_errors k e) ≡ true
    go true s = rw s
    go false s = let f = errors_facts k e v in rw s (both (both f.limited f.marked) (or-true (not e.recovering)))

-- so does what a bus-off poll leaves
pub bus_off_errors_valid : (k : Controller) (e : Errors) → errors_valid k e ≡ true → errors_valid (entering_bus_off k) (bus_off_errors k e) ≡ true
bus_off_errors_valid k e v = both (both (errors_facts k e v).limited (or-true (not (above_bus_off e.tx_errors)))) refl

-- the rest of a valid core does not look at the errors
pub errors_aside : {L : Limits} (core : Core) (es : List Errors) → Valid L core → Valid L (with_errors core es)
errors_aside core es v =
    record {
      controller_places = v.controller_places;
      owner_places = v.owner_places;
      mailbox_places = v.mailbox_places;
      counts = v.counts;
      owners = v.owners;
      controllers = v.controllers;
      mailboxes = v.mailboxes;
    }

module _ (L : Limits) (core : Core) (v : ErrorsValid L core) where
  -- those of a controller in use
  pub own_errors : core.controller_count ≤ L.controllers → (c : ℕ) → c < core.controller_count → errors_valid (controller_at core.controllers c) (errors_at core.errors c) ≡ true
  own_errors within c l = rw (lt-ltb c core.controller_count l) at (v.errors c (omega arith))

  -- a core with as many controllers in use, each with valid errors, and the others' as they were
  pub errors_suit : (next : Core) → next.controller_count ≡ core.controller_count → length next.errors ≡ L.controllers
      → ((c : ℕ) → c < core.controller_count → errors_valid (controller_at next.controllers c) (errors_at next.errors c) ≡ true)
      → ((c : ℕ) → core.controller_count ≤ c → errors_at next.errors c ≡ errors_at core.errors c) → ErrorsValid L next
  errors_suit next same long used unused = record { places = long; errors = λ c l. rw same (place c l (decide (ltb c core.controller_count))) }
    where
      place : (c : ℕ) → c < L.controllers → (ltb c core.controller_count ≡ true) ⊎ (ltb c core.controller_count ≡ false)
          → cond (ltb c core.controller_count) (errors_valid (controller_at next.controllers c) (errors_at next.errors c)) (errors_none (errors_at next.errors c)) ≡ true
      place c l (inl t) = rw t (used c (ltb-true c core.controller_count t))
      place c l (inr t) = rw (t, unused c (ltb-false c core.controller_count t)) (rw t at (v.errors c l))

  -- one controller in use is changed, with its errors
  module _ (facts : Valid L core) (c : ℕ) (l : c < core.controller_count) (k : Controller) (e : Errors) (suits : errors_valid k e ≡ true) where
    within : core.controller_count ≤ L.controllers
    within = controllers_within L core facts

    fits : c < length core.controllers
    fits = rw facts.controller_places (let w = within in omega arith)

    errors_fit : c < length core.errors
    errors_fit = rw v.places (let w = within in omega arith)

    pub one_counted : ErrorsValid L (with_errors (with_controllers core (set core.controllers c k)) (set core.errors c e))
    one_counted =
        errors_suit _ refl (length-set core.errors c e ∙ v.places) (λ i li. used i li (ℕ_discrete i c))
        (λ i past. get_or-set_other core.errors c i e no_errors (λ same. omega arith))
      where
        used : (i : ℕ) → i < core.controller_count → Dec (i ≡ c) → errors_valid (controller_at (set core.controllers c k) i) (errors_at (set core.errors c e) i) ≡ true
        used i li (yes same) = rw (same, get_or-set_same core.controllers c k idle_controller fits, get_or-set_same core.errors c e no_errors errors_fit) suits
        used i li (no apart) = rw (get_or-set_other core.controllers c i k idle_controller apart, get_or-set_other core.errors c i e no_errors apart) (own_errors within i li)

  -- the same where its errors stay as they were
  pub one_changed : Valid L core → (c : ℕ) → c < core.controller_count → (k : Controller) → errors_valid k (errors_at core.errors c) ≡ true
      → ErrorsValid L (with_controllers core (set core.controllers c k))
  one_changed facts c l k suits = errors_suit _ refl v.places (λ i li. used i li (ℕ_discrete i c)) (λ i past. refl)
    where
      used : (i : ℕ) → i < core.controller_count → Dec (i ≡ c) → errors_valid (controller_at (set core.controllers c k) i) (errors_at core.errors i) ≡ true
      used i li (yes same) =
          let w = controllers_within L core facts in
          rw (same, get_or-set_same core.controllers c k idle_controller (rw facts.controller_places (omega arith))) suits
      used i li (no apart) = rw (get_or-set_other core.controllers c i k idle_controller apart) (own_errors (controllers_within L core facts) i li)
