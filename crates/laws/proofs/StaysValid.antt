-- "A sound state leads only to sound states": for every call, any limits and any lawful format.
use Prim.Native.Nat.{ℕ, ◌≤◌, ◌<◌}
use mathlib.Core.Path.{◌≡◌, refl, ◌∙◌}
use mathlib.Core.Bool.{Bool, true, false, not, cond, ◌&&◌, ◌||◌, or-true, and-false}
use mathlib.Core.List.{List}
use mathlib.Core.Option.{Option, none, some}
use mathlib.Core.Logic.{◌⊎◌, inl, inr}
use native.Mathlib.Omega.{arith}
use lib.ListN.{length, set, replicate, length-replicate, get_or-replicate}
use lib.Dec.{eqb, ltb, leb, leb-suc-zero}
use borrow.Author.Tests.{eqb-true, eq-eqb, lt-ltb, ltb-true}
use Rattle.rules.specs.Limits.{Limits}
use Rattle.rules.specs.Format.{Format, Lawful}
use Rattle.rules.specs.Repeat.{rising, all_below}
use Rattle.rules.specs.Mode.{STARTED, STOPPED, SLEEP, permitted}
use Rattle.rules.specs.Reason.{first_reason, ◌then◌, reasons_named}
use Rattle.rules.specs.Errors.{Errors, no_errors, above_bus_off}
use Rattle.rules.specs.Core.{Controller, Owner, Mailbox, Core, idle_controller, unused_owner, empty_mailbox, controller_at, errors_at, owner_at, mailbox_at, is_started, in_use, is_sending, controller_of, free_member, with_controllers, with_mailboxes, with_errors, controller_valid, errors_valid, mailbox_valid, owner_place_valid, controller_place_valid, counts_valid, owners_valid, core_valid, initial_core}
use Rattle.rules.specs.Configuration.{configuration_of, accepted_bytes, configuration_valid, header_valid, size_valid, kind_valid, objects_byte, settings_place_valid, all_settings_valid}
use Rattle.rules.specs.State.{State, valid, initial_state}
use Rattle.rules.specs.Outcome.{Outcome, Question, state_gate, sheet_gate, full_gate}
use Rattle.rules.specs.Services as services
use Rattle.rules.specs.Services.{set_controller_mode_checks, configured_core, stopped_controller, with_request, mode_requested, write_reason, written_mailbox, taken}
use Rattle.rules.specs.Polls.{Boxes, Sweep, Visit, Turn, visit_all, closing, sweep_of, after_sweep, turn_one, turn_all, mode_change, going_off, takes_request, errors_all, objects_polled, controllers_polled}
use Rattle.rules.specs.Polls as polls
use Rattle.rules.specs.Events as events
use Rattle.rules.specs.Events.{tx_complete_checks, on_bus_checks, has_unsent, sent_mailbox, filled_mailbox, marked_bus_off, errors_counted_reason, counted_controller, counted_errors, fits_frame, filled}
use Rattle.rules.specs.Calls.{init, deinit, set_controller_mode, ask_controller, write, main_function_write, main_function_read, main_function_mode, main_function_bus_off, tx_complete, bus_off_detected, errors_counted, frame_arrived, init_checks, configured_state, frame_reason, best_object, received, not_stored}
use Rattle.laws.proofs.Tests.{both, left, right, clash, decide, cond_both, not_true, not_false}
use Rattle.laws.proofs.Repeat.{rising_keeps, facts_all, length-list_below, get_or-list_below}
use Rattle.laws.proofs.Choice.{choice_tells}
use Rattle.laws.proofs.Reasons.{then_second, check_passed, judged_either}
use Rattle.laws.proofs.Pools.{named, taken_member, member_sends, member_controller}
use Rattle.laws.proofs.Validity.{Valid, ErrorsValid, pools_valid, core_facts, error_facts, facts_core, CoreKept, state_core, core_stays}
use Rattle.laws.proofs.Sweeps.{boxes_length, turns_below, errors_length, errors_above, errors_below}
use Rattle.laws.proofs.Changes.{not_pending, pending_needs_started, empty_valid, controllers_within, objects_within, set-mailbox_valid, sweep_valid, set-controller_valid}
use Rattle.laws.proofs.Closing.{closed_own, closed_others}
use Rattle.laws.proofs.Acceptance.{write_passed, counted_passed}
use Rattle.laws.proofs.Errors.{own_errors, errors_suit, one_changed, one_counted, marked_valid, counted_valid, entering_errors_valid, bus_off_errors_valid, errors_aside}

-- what a permitted request asks for is a mode of an initialised controller
pub permitted_mode : (mode asked : ℕ) → permitted mode asked ≡ true → (leb STARTED asked && leb asked SLEEP) ≡ true
permitted_mode mode asked h = go (decide (eqb asked STARTED)) (decide (eqb asked STOPPED)) (decide (eqb asked SLEEP))
  where
    is : (m : ℕ) → eqb asked m ≡ true → (leb STARTED m && leb m SLEEP) ≡ true → (leb STARTED asked && leb asked SLEEP) ≡ true
    is m e t = rw (eqb-true asked m e) t

    go : (eqb asked STARTED ≡ true) ⊎ (eqb asked STARTED ≡ false) → (eqb asked STOPPED ≡ true) ⊎ (eqb asked STOPPED ≡ false) → (eqb asked SLEEP ≡ true) ⊎ (eqb asked SLEEP ≡ false)
        → (leb STARTED asked && leb asked SLEEP) ≡ true
    go (inl e) q r = is STARTED e refl
    go (inr d) (inl e) r = is STOPPED e refl
    go (inr d) (inr d') (inl e) = is SLEEP e refl
    go (inr d) (inr d') (inr d'') = clash h (rw (d, d', d'') (simp and-false))

-- a request that waits on a valid controller is permitted
pub waiting_permitted : (k : Controller) → controller_valid k ≡ true → takes_request k ≡ true → permitted k.mode k.requested_mode ≡ true
waiting_permitted k v t =
    let bounds = leb STARTED k.mode && leb k.mode SLEEP in
    let request = eqb k.requested_mode 0 || permitted k.mode k.requested_mode in
    let some_request = not_true (eqb k.requested_mode 0) (right (not k.bus_off) (not (eqb k.requested_mode 0)) t) in
    rw some_request at (right bounds request (left (bounds && request) (not k.bus_off || is_started k) v))

-- a pending frame belongs to a sending object of a STARTED controller
pub pending_facts : (receiving started : Bool) (m : Mailbox) → mailbox_valid receiving started m ≡ true → m.tx_pending ≡ true → (not receiving && started) ≡ true
pending_facts receiving started m v p =
    left (not receiving && started) (not m.tx_done || true)
    (left ((not receiving && started) && (not m.tx_done || true)) (not m.rx_full || receiving) (rw p at v))

-- The calls on the core

module _ (L : Limits) where
  -- the mailbox of an object in use
  pub own_mailbox : (core : Core) → Valid L core → (h : ℕ) → h < core.object_count
      → mailbox_valid (owner_at core.owners h).receiving (is_started (controller_of core h)) (mailbox_at core.mailboxes h) ≡ true
  own_mailbox core v h l = let w = objects_within L core v in rw (lt-ltb h core.object_count l) at (v.mailboxes h (omega arith))

  -- a controller in use
  pub own_controller : (core : Core) → Valid L core → (c : ℕ) → c < core.controller_count → controller_valid (controller_at core.controllers c) ≡ true
  own_controller core v c l = let w = controllers_within L core v in rw (lt-ltb c core.controller_count l) at (v.controllers c (omega arith))

  -- the same mailboxes beside a controller whose being STARTED does not change
  same_mode_valid : (core : Core) → Valid L core → (c : ℕ) (k : Controller) → c < core.controller_count → controller_valid k ≡ true
      → is_started k ≡ is_started (controller_at core.controllers c) → Valid L (with_controllers core (set core.controllers c k))
  same_mode_valid core v c k l kv same =
      set-controller_valid L core v c k core.mailboxes l kv v.mailbox_places
      (λ h lh e. rw (same, ← e) (own_mailbox core v h lh))
      (λ h other. refl)

  -- a call leaves a core that is valid, with the owners as they were: it is refused, or changes controllers and mailboxes alone
  same_core : (core : Core) → core_valid L core ≡ true → CoreKept L core core
  same_core core v = record { stays = v; count_kept = refl; owners_kept = refl }

  changed : (core : Core) (ks : List Controller) (ms : List Mailbox) → Valid L (with_mailboxes (with_controllers core ks) ms) → ErrorsValid L (with_controllers core ks)
      → CoreKept L core (with_mailboxes (with_controllers core ks) ms)
  changed core ks ms v e = record { stays = facts_core L _ v (record { places = e.places; errors = e.errors }); count_kept = refl; owners_kept = refl }

  module _ (gate : ℕ) (core : Core) (ram : List ℕ) (v : core_valid L core ≡ true) where
    facts : Valid L core
    facts = core_facts L core v

    errors : ErrorsValid L core
    errors = error_facts L core v

    -- the errors of a controller in use
    errors_own : (c : ℕ) → c < core.controller_count → errors_valid (controller_at core.controllers c) (errors_at core.errors c) ≡ true
    errors_own = own_errors L core errors (controllers_within L core facts)

    abbrev Kept : Outcome Core → Type 0
    Kept o = CoreKept L core o.state

    pub ask_controller_kept : (q : Question) (c : ℕ) → Kept (services.ask_controller gate q core ram c)
    unfolding services.ask_controller
    ask_controller_kept q c = judged_either Kept _ _ _ (same_core core v) (λ r. same_core core v)

    pub set_controller_mode_kept : (c asked : ℕ) → Kept (services.set_controller_mode gate core ram c asked)
    unfolding services.set_controller_mode reasons_named
    set_controller_mode_kept c asked = judged_either Kept (gate then first_reason (set_controller_mode_checks core c asked)) _ _ (same_core core v) next
      where
        next : (gate then first_reason (set_controller_mode_checks core c asked)) ≡ 0 → CoreKept L core (mode_requested core c asked)
        next r =
            let k = controller_at core.controllers c in
            let checks = set_controller_mode_checks core c asked in
            let own = then_second gate (first_reason checks) r in
            let l = ltb-true c core.controller_count (not_false (in_use core c) (check_passed 1 checks refl own)) in
            let move = not_false (permitted k.mode asked) (check_passed 2 checks refl own) in
            let kv = own_controller core facts c l in
            let bounds = leb STARTED k.mode && leb k.mode SLEEP in
            let request = eqb k.requested_mode 0 || permitted k.mode k.requested_mode in
            let mark = not k.bus_off || is_started k in
            changed core _ core.mailboxes
            (same_mode_valid core facts c (with_request asked k) l
            (both (both (left bounds request (left (bounds && request) mark kv)) (rw move (or-true (eqb asked 0)))) (right (bounds && request) mark kv))
            refl)
            (one_changed L core errors facts c l (with_request asked k) (errors_own c l))

    -- a write that is taken
    pub taken_kept : (h frame : ℕ) → write_reason core h frame ≡ 0 → CoreKept L core (taken core (free_member core h))
    taken_kept h frame r =
        let w = write_passed core h frame r in
        let n = named core h w.pool_named in
        let m = free_member core h in
        let p = taken_member core h n in
        let sends : (owner_at core.owners m).receiving ≡ false = member_sends core.owners (owner_at core.owners h).pool m p.pooled in
        let started : is_started (controller_of core m) ≡ true = rw (member_controller L.objects core h m (pools_valid L core facts) n p) w.started in
        changed core core.controllers _ (set-mailbox_valid L core facts m written_mailbox p.in_use (both (both (both {a = not (owner_at core.owners m).receiving} (rw sends) started) refl) refl)) errors

    pub tx_complete_kept : (h : ℕ) → Kept (events.tx_complete gate core ram h)
    unfolding events.tx_complete reasons_named
    tx_complete_kept h = judged_either Kept (gate then first_reason (tx_complete_checks core h)) _ _ (same_core core v) next
      where
        next : (gate then first_reason (tx_complete_checks core h)) ≡ 0 → CoreKept L core (with_mailboxes core (set core.mailboxes h sent_mailbox))
        next r =
            let checks = tx_complete_checks core h in
            let own = then_second gate (first_reason checks) r in
            let m = mailbox_at core.mailboxes h in
            let o = owner_at core.owners h in
            let sending = not_false (is_sending core h) (check_passed 1 checks refl own) in
            let unsent = not_false (has_unsent m) (check_passed 2 checks refl own) in
            let l = ltb-true h core.object_count (left (ltb h core.object_count) (not o.receiving) sending) in
            changed core core.controllers _
            (set-mailbox_valid L core facts h sent_mailbox l
            (both (both (pending_facts o.receiving (is_started (controller_of core h)) m (own_mailbox core facts h l) (left m.tx_pending (not m.tx_done) unsent)) refl) refl)) errors

    pub bus_off_detected_kept : (c : ℕ) → Kept (events.bus_off_detected gate core ram c)
    unfolding events.bus_off_detected reasons_named
    bus_off_detected_kept c = judged_either Kept (gate then first_reason (on_bus_checks core c)) _ _ (same_core core v) next
      where
        next : (gate then first_reason (on_bus_checks core c)) ≡ 0 → CoreKept L core (with_controllers core (set core.controllers c (marked_bus_off (controller_at core.controllers c))))
        next r =
            let k = controller_at core.controllers c in
            let checks = on_bus_checks core c in
            let own = then_second gate (first_reason checks) r in
            let l = ltb-true c core.controller_count (not_false (in_use core c) (check_passed 1 checks refl own)) in
            let started = not_false (is_started k) (check_passed 2 checks refl own) in
            let rest = leb STARTED k.mode && leb k.mode SLEEP && (eqb k.requested_mode 0 || permitted k.mode k.requested_mode) in
            changed core _ core.mailboxes
            (same_mode_valid core facts c (marked_bus_off k) l (both (left rest (not k.bus_off || is_started k) (own_controller core facts c l)) started) refl)
            (one_changed L core errors facts c l (marked_bus_off k) (marked_valid k (errors_at core.errors c) (errors_own c l)))

    pub errors_counted_kept : (c tx rx : ℕ) → Kept (events.errors_counted gate core ram c tx rx)
    unfolding events.errors_counted reasons_named
    errors_counted_kept c tx rx = judged_either Kept (gate then errors_counted_reason core c tx rx) _ _ (same_core core v) next
      where
        next : (gate then errors_counted_reason core c tx rx) ≡ 0
            → CoreKept L core
            (with_errors (with_controllers core (set core.controllers c (counted_controller tx (controller_at core.controllers c))))
            (set core.errors c (counted_errors tx rx (errors_at core.errors c))))
        next r =
            let k = controller_at core.controllers c in
            let e = errors_at core.errors c in
            let own = then_second gate (errors_counted_reason core c tx rx) r in
            let p = counted_passed core c tx rx own in
            let kv = own_controller core facts c p.used in
            let rest = leb STARTED k.mode && leb k.mode SLEEP && (eqb k.requested_mode 0 || permitted k.mode k.requested_mode) in
            let fits = counted_valid tx rx k e (errors_own c p.used) p.started p.limited in
            let kept =
            same_mode_valid core facts c (counted_controller tx k) p.used
            (cond_both (λ (x : Controller). controller_valid x ≡ true) (above_bus_off tx) (marked_bus_off k) k (λ t. both (left rest (not k.bus_off || is_started k) kv) p.started) (λ t. kv))
            (cond_both (λ (x : Controller). is_started x ≡ is_started k) (above_bus_off tx) (marked_bus_off k) k (λ t. refl) (λ t. refl)) in
            record {
              stays = facts_core L _ (errors_aside _ (set core.errors c (counted_errors tx rx e)) kept) (one_counted L core errors facts c p.used (counted_controller tx k) (counted_errors tx rx e) fits);
              count_kept = refl;
              owners_kept = refl;
            }

    -- an arrival that is stored
    pub filled_kept : (c h : ℕ) (accepts : ℕ → Bool) (rank : ℕ → ℕ) → events.best_object core c accepts rank false ≡ some h → CoreKept L core (filled core h)
    unfolding events.best_object
    filled_kept c h accepts rank e =
        let o = owner_at core.owners h in
        let chosen = choice_tells _ _ core.object_count (some h) e in
        let fits = left (fits_frame c o (accepts h)) _ chosen.fitting in
        let receiving = left o.receiving (eqb o.controller c) (left (o.receiving && eqb o.controller c) (accepts h) fits) in
        changed core core.controllers _ (set-mailbox_valid L core facts h filled_mailbox chosen.below receiving) errors

    -- a poll over the objects
    pub objects_polled_kept : (visit : Visit) → Kept (objects_polled gate visit core ram)
    objects_polled_kept visit =
        judged_either Kept gate _ _ (same_core core v) (λ r. changed core core.controllers _ (sweep_valid L core facts visit core.object_count) errors)

  -- a controller's turn in a sweep over the controllers: it enters a valid state, and if it ceases to be STARTED it leaves the bus
  pub record Sound (t : Turn) : Type 0 where
    pub enters : (k : Controller) → controller_valid k ≡ true → t.due k ≡ true → controller_valid (t.entered k) ≡ true
    pub stays_on : (k : Controller) → t.leaves k ≡ false → is_started k ≡ true → is_started (t.entered k) ≡ true
    pub errors_enter : (k : Controller) (e : Errors) → errors_valid k e ≡ true → errors_valid (t.entered k) (t.errors_after k e) ≡ true

  module _ (size : ℕ) (t : Turn) (sound : Sound t) (core : Core) (ram : List ℕ) (c : ℕ) (w : Sweep) (v : Valid L (after_sweep core w)) (l : c < core.controller_count) where
    abbrev control : Controller
    control = controller_at w.controllers c

    abbrev receiving_at : ℕ → Bool
    receiving_at h = (owner_at core.owners h).receiving

    -- an object of the controller suits it before its turn
    suits : (h : ℕ) → h < core.object_count → (owner_at core.owners h).controller ≡ c → mailbox_valid (receiving_at h) (is_started control) (mailbox_at w.boxes.mailboxes h) ≡ true
    suits h lh e = rw e at (own_mailbox (after_sweep core w) v h lh)

    -- nothing is closed where the controller does not leave the bus
    nothing_left : (h : ℕ) → h < core.object_count → (owner_at core.owners h).controller ≡ c → t.leaves control ≡ false
        → mailbox_valid (receiving_at h) (is_started (t.entered control)) (mailbox_at w.boxes.mailboxes h) ≡ true
    nothing_left h lh e stays = go (decide (is_started control))
      where
        go : (is_started control ≡ true) ⊎ (is_started control ≡ false) → mailbox_valid (receiving_at h) (is_started (t.entered control)) (mailbox_at w.boxes.mailboxes h) ≡ true
        go (inl st) = rw (sound.stays_on control stays st) (rw st at (suits h lh e))
        go (inr st) =
            let m = mailbox_at w.boxes.mailboxes h in
            let sv : mailbox_valid (receiving_at h) false m ≡ true = rw st at (suits h lh e) in
            not_pending (receiving_at h) false (is_started (t.entered control)) m sv (pending_needs_started (receiving_at h) m sv)

    turned : t.due control ≡ true → Valid L (after_sweep core (record { controllers = set w.controllers c (t.entered control); boxes = cond (t.leaves control) (visit_all (closing size core.owners ram c) core.object_count w.boxes) w.boxes }))
    turned due =
        let closed = visit_all (closing size core.owners ram c) core.object_count w.boxes in
        set-controller_valid L (after_sweep core w) v c (t.entered control) (cond (t.leaves control) closed w.boxes).mailboxes l
        (sound.enters control (own_controller (after_sweep core w) v c l) due)
        (cond_both (λ (b : Boxes). length b.mailboxes ≡ L.objects) (t.leaves control) closed w.boxes
        (λ g. boxes_length (closing size core.owners ram c) w.boxes core.object_count ∙ v.mailbox_places)
        (λ g. v.mailbox_places))
        (λ h lh e. cond_both (λ (b : Boxes). mailbox_valid (receiving_at h) (is_started (t.entered control)) (mailbox_at b.mailboxes h) ≡ true) (t.leaves control) closed w.boxes
        (λ g. closed_own size core.owners core.object_count ram c w.boxes h lh e (receiving_at h) (is_started control) (is_started (t.entered control)) (suits h lh e))
        (λ g. nothing_left h lh e g))
        (λ h other. cond_both (λ (b : Boxes). mailbox_at b.mailboxes h ≡ mailbox_at w.boxes.mailboxes h) (t.leaves control) closed w.boxes
        (λ g. closed_others size core.owners core.object_count ram c w.boxes h other)
        (λ g. refl))

  -- a poll over the controllers
  pub controllers_polled_kept : (size : ℕ) (t : Turn) → Sound t → (gate : ℕ) (core : Core) (ram : List ℕ) → core_valid L core ≡ true → CoreKept L core (controllers_polled gate size t core ram).state
  unfolding turn_all
  controllers_polled_kept size t sound gate core ram v =
      judged_either (λ (o : Outcome Core). CoreKept L core o.state) gate _ _ (same_core core v)
      (λ r. record { stays = facts_core L _ (errors_aside _ _ swept) errors_swept; count_kept = refl; owners_kept = refl })
    where
      facts : Valid L core
      facts = core_facts L core v

      errors : ErrorsValid L core
      errors = error_facts L core v

      within : core.controller_count ≤ L.controllers
      within = controllers_within L core facts

      used : (c : ℕ) → c < core.controller_count
          → errors_valid (controller_at (turn_all size t core ram).controllers c) (errors_at (errors_all t core.controller_count core.controllers core.errors) c) ≡ true
      used c l =
          rw (turns_below size t core ram (rw facts.controller_places within) c l, errors_below t core.controllers core.errors core.controller_count (rw errors.places within) c l)
          (go (t.due (controller_at core.controllers c)) (own_errors L core errors within c l))
        where
          go : (due : Bool) → errors_valid (controller_at core.controllers c) (errors_at core.errors c) ≡ true
              → errors_valid (cond due (t.entered (controller_at core.controllers c)) (controller_at core.controllers c))
              (cond due (t.errors_after (controller_at core.controllers c) (errors_at core.errors c)) (errors_at core.errors c)) ≡ true
          go true own = sound.errors_enter _ _ own
          go false own = own

      errors_swept : ErrorsValid L
          (with_errors (after_sweep core (rising core.controller_count (turn_one size t core ram) (sweep_of core)))
          (errors_all t core.controller_count core.controllers core.errors))
      errors_swept =
          errors_suit L core errors _ refl (errors_length t core.controllers core.errors core.controller_count ∙ errors.places) used
          (errors_above t core.controllers core.errors core.controller_count)

      swept : Valid L (after_sweep core (rising core.controller_count (turn_one size t core ram) (sweep_of core)))
      swept =
          rising_keeps (λ (w : Sweep). Valid L (after_sweep core w)) (turn_one size t core ram) core.controller_count
          (λ c l w vw. cond_both (λ (x : Sweep). Valid L (after_sweep core x)) (t.due (controller_at w.controllers c)) _ w (λ due. turned size t sound core ram c w vw l due) (λ due. vw))
          (sweep_of core) (core_facts L core v)

  pub mode_change_sound : Sound mode_change
  mode_change_sound =
      record {
        enters = λ k kv due.
            let unmarked = not_true k.bus_off (left (not k.bus_off) (not (eqb k.requested_mode 0)) due) in
            both (both (permitted_mode k.mode k.requested_mode (waiting_permitted k kv due)) refl) (rw unmarked);
        stays_on = λ k stays st. not_false (eqb k.requested_mode STARTED) (rw st at stays);
        errors_enter = entering_errors_valid;
      }

  pub going_off_sound : Sound going_off
  going_off_sound = record { enters = λ k kv due. refl; stays_on = λ k stays st. clash refl stays; errors_enter = bus_off_errors_valid }

  pub initial_core_valid : core_valid L (initial_core L) ≡ true
  unfolding all_below
  initial_core_valid =
      facts_core L (initial_core L)
      (record {
        controller_places = length-replicate L.controllers idle_controller;
        owner_places = length-replicate L.objects unused_owner;
        mailbox_places = length-replicate L.objects empty_mailbox;
        counts = refl;
        owners = both (facts_all L.objects (owner_place_valid 0 0 (replicate L.objects unused_owner)) (λ h l. rw (leb-suc-zero h, get_or-replicate L.objects h unused_owner unused_owner l))) refl;
        controllers = λ c l. rw (leb-suc-zero c, get_or-replicate L.controllers c idle_controller idle_controller l);
        mailboxes = λ h l. rw (leb-suc-zero h, get_or-replicate L.objects h empty_mailbox empty_mailbox l);
      })
      (record {
        places = length-replicate L.controllers no_errors;
        errors = λ c l. rw (leb-suc-zero c, get_or-replicate L.controllers c no_errors no_errors l);
      })

  pub configured_core_valid : (controller_count object_count : ℕ) (owners : List Owner) → length owners ≡ L.objects → counts_valid L controller_count object_count ≡ true
      → owners_valid L controller_count object_count owners ≡ true → core_valid L (configured_core L controller_count object_count owners) ≡ true
  configured_core_valid controller_count object_count owners places counts valid =
      facts_core L (configured_core L controller_count object_count owners)
      (record {
        controller_places = length-list_below L.controllers (λ k. cond (ltb k controller_count) stopped_controller idle_controller);
        owner_places = places;
        mailbox_places = length-replicate L.objects empty_mailbox;
        counts = counts;
        owners = valid;
        controllers = λ c l. control c l (decide (ltb c controller_count));
        mailboxes = λ h l. rw (get_or-replicate L.objects h empty_mailbox empty_mailbox l) (empty_valid (ltb h object_count) false false);
      })
      (record {
        places = length-replicate L.controllers no_errors;
        errors = λ c l. rw (get_or-replicate L.controllers c no_errors no_errors l) (cond_both (λ (b : Bool). b ≡ true) (ltb c controller_count) _ _ (λ t. refl) (λ t. refl));
      })
    where
      control : (c : ℕ) → c < L.controllers → (ltb c controller_count ≡ true) ⊎ (ltb c controller_count ≡ false) → controller_place_valid (configured_core L controller_count object_count owners) c ≡ true
      control c l (inl e) = rw (get_or-list_below L.controllers (λ k. cond (ltb k controller_count) stopped_controller idle_controller) c idle_controller l, e)
      control c l (inr e) = rw (get_or-list_below L.controllers (λ k. cond (ltb k controller_count) stopped_controller idle_controller) c idle_controller l, e)

-- The calls on the state

module _ (L : Limits) (F : Format) where
  pub initial_valid : Lawful L F → valid L F (initial_state L F) ≡ true
  unfolding valid all_below
  initial_valid lawful =
      let unused = replicate L.objects unused_owner in
      let settings = replicate L.objects F.unused_settings in
      both (both (initial_core_valid L) (eq-eqb _ _ (length-replicate L.objects F.unused_settings)))
      (both (facts_all L.objects (settings_place_valid F 0 unused settings) (λ h l. rw (leb-suc-zero h, get_or-replicate L.objects h F.unused_settings F.unused_settings l) lawful.unused)) refl)

  pub configured_valid : (bytes : List ℕ) → accepted_bytes L F bytes ≡ true → valid L F (configured_state L F (configuration_of L F bytes)) ≡ true
  unfolding accepted_bytes configuration_of valid
  configured_valid bytes a =
      let cfg = configuration_of L F bytes in
      let counts = counts_valid L cfg.controller_count cfg.object_count in
      let owners = owners_valid L cfg.controller_count cfg.object_count cfg.owners in
      let suits = all_settings_valid L F cfg.object_count cfg.owners cfg.settings in
      let cv = right (header_valid L F bytes && size_valid L F bytes && all_below (objects_byte bytes) (kind_valid L F bytes)) (configuration_valid L F cfg) a in
      both
      (both
      (configured_core_valid L cfg.controller_count cfg.object_count cfg.owners (length-list_below L.objects _) (left counts owners (left (counts && owners) suits cv)) (right counts owners (left (counts && owners) suits cv)))
      (eq-eqb _ _ (length-list_below L.objects _)))
      (right (counts && owners) suits cv)

  module _ (s : State F) (sheet : ℕ) (ram : List ℕ) (v : valid L F s ≡ true) where
    own : core_valid L s.core ≡ true
    own = state_core L F s v

    abbrev Stays : Outcome (State F) → Type 0
    Stays o = valid L F o.state ≡ true

    pub init_stays_valid : (bytes : List ℕ) → Stays (init L F s sheet ram bytes)
    unfolding init reasons_named
    init_stays_valid bytes =
        judged_either Stays (full_gate L F s sheet ram then first_reason (init_checks L F s bytes)) _ _ v
        (λ r. configured_valid bytes (not_false (accepted_bytes L F bytes) (check_passed 1 (init_checks L F s bytes) refl (then_second (full_gate L F s sheet ram) (first_reason (init_checks L F s bytes)) r))))

    pub deinit_stays_valid : Lawful L F → Stays (deinit L F s sheet ram)
    unfolding deinit
    deinit_stays_valid lawful = judged_either Stays _ _ _ v (λ r. initial_valid lawful)

    pub set_controller_mode_stays_valid : (c asked : ℕ) → Stays (set_controller_mode L F s sheet ram c asked)
    unfolding set_controller_mode
    set_controller_mode_stays_valid c asked = core_stays L F s _ (set_controller_mode_kept L (sheet_gate L F s sheet) s.core ram own c asked) v

    pub ask_controller_stays_valid : (q : Question) (c : ℕ) → Stays (ask_controller L F q s sheet ram c)
    unfolding ask_controller
    ask_controller_stays_valid q c = core_stays L F s _ (ask_controller_kept L (sheet_gate L F s sheet) s.core ram own q c) v

    pub write_stays_valid : (h handle : ℕ) (frame : F.Frame) → Stays (write L F s sheet ram h handle frame)
    unfolding write
    write_stays_valid h handle frame =
        judged_either Stays (full_gate L F s sheet ram then write_reason s.core h (frame_reason L F s h frame)) _ _ v
        (λ r. core_stays L F s _
        (taken_kept L 0 s.core ram own h (frame_reason L F s h frame) (then_second (full_gate L F s sheet ram) (write_reason s.core h (frame_reason L F s h frame)) r)) v)

    pub main_function_write_stays_valid : Stays (main_function_write L F s sheet ram)
    unfolding main_function_write polls.main_function_write
    main_function_write_stays_valid = core_stays L F s _ (objects_polled_kept L (full_gate L F s sheet ram) s.core ram own _) v

    pub main_function_read_stays_valid : Stays (main_function_read L F s sheet ram)
    unfolding main_function_read polls.main_function_read
    main_function_read_stays_valid = core_stays L F s _ (objects_polled_kept L (full_gate L F s sheet ram) s.core ram own _) v

    pub main_function_mode_stays_valid : Stays (main_function_mode L F s sheet ram)
    unfolding main_function_mode polls.main_function_mode
    main_function_mode_stays_valid = core_stays L F s _ (controllers_polled_kept L L.object_size mode_change (mode_change_sound L) (full_gate L F s sheet ram) s.core ram own) v

    pub main_function_bus_off_stays_valid : Stays (main_function_bus_off L F s sheet ram)
    unfolding main_function_bus_off polls.main_function_bus_off
    main_function_bus_off_stays_valid = core_stays L F s _ (controllers_polled_kept L L.object_size going_off (going_off_sound L) (full_gate L F s sheet ram) s.core ram own) v

    pub tx_complete_stays_valid : (h : ℕ) → Stays (tx_complete L F s ram h)
    unfolding tx_complete
    tx_complete_stays_valid h = core_stays L F s _ (tx_complete_kept L (state_gate L F s) s.core ram own h) v

    pub bus_off_detected_stays_valid : (c : ℕ) → Stays (bus_off_detected L F s ram c)
    unfolding bus_off_detected
    bus_off_detected_stays_valid c = core_stays L F s _ (bus_off_detected_kept L (state_gate L F s) s.core ram own c) v

    pub errors_counted_stays_valid : (c tx rx : ℕ) → Stays (errors_counted L F s sheet ram c tx rx)
    unfolding errors_counted
    errors_counted_stays_valid c tx rx = core_stays L F s _ (errors_counted_kept L (sheet_gate L F s sheet) s.core ram own c tx rx) v

    pub frame_arrived_stays_valid : (c : ℕ) (frame : F.Frame) → Stays (frame_arrived L F s sheet ram c frame)
    unfolding frame_arrived
    frame_arrived_stays_valid c frame = judged_either Stays _ _ _ v (λ r. arrival (best_object L F s c frame false) refl)
      where
        no_change : (o : Option ℕ) → Stays (not_stored L F s ram o)
        no_change none = v
        no_change (some h) = v

        arrival : (o : Option ℕ) → best_object L F s c frame false ≡ o → Stays (received L F s ram c frame o)
        arrival none e = no_change (best_object L F s c frame true)
        arrival (some h) e = core_stays L F s _ (filled_kept L 0 s.core ram own c h _ _ e) v
