-- Every object's account stays intact. What the account holds agrees with the driver's flags: a write is open exactly if the
-- mailbox is pending, it was sent exactly if the mailbox says so, and the object's bytes are those that the write laid down.
use Prim.Native.Nat.{ℕ, ◌≤◌, ◌<◌, ◌^◌}
use mathlib.Core.Path.{◌≡◌, refl, ap, sym, ◌∙◌, subst, subst⁻¹, subst₂}
use mathlib.Core.Bool.{Bool, true, false, not, ◌&&◌, ◌||◌}
use mathlib.Core.List.{List, [], ◌∷◌, ◌++◌}
use mathlib.Core.Option.{some}
use mathlib.Core.Logic.{◌⊎◌, inl, inr}
use native.Mathlib.Omega.{arith}
use native.Mathlib.Decide.{ℕ_discrete, dec_lt}
use lib.ListN.{length, set, get_or-eq_default}
use lib.Seq.{get_or-set_same, get_or-set_other}
use lib.Dec.{eqb, ltb}
use borrow.Author.Tests.{eqb-true, eq-eqb, ne_eqb, ltb-true, lt-ltb, le-ltb}
use Rattle.rules.specs.Limits.{Limits, object_start, ram_size}
use Rattle.rules.specs.Format.{Format, Lawful}
use Rattle.rules.specs.Head.{handle_in}
use Rattle.rules.specs.Repeat.{all_below}
use Rattle.rules.specs.Bytes.{splice}
use Rattle.rules.specs.Reason.{first_reason, ◌then◌, reasons_named}
use Rattle.rules.specs.Notification.{Notification, tx_confirmation, data_lost, tx_cancellation}
use Rattle.rules.specs.Core.{Controller, Owner, Mailbox, Core, empty_mailbox, controller_at, errors_at, owner_at, mailbox_at, mailbox_valid, mailbox_empty, is_started, is_sending, controller_of, with_mailboxes, free_member}
use Rattle.rules.specs.Configuration.{Configuration, no_configuration}
use Rattle.rules.specs.State.{State, with_core, valid, initial_state}
use Rattle.rules.specs.Outcome.{Outcome, Answer, taken_by, stored_in, unwanted, lost, accepted, full_gate, state_gate}
use Rattle.rules.specs.Services.{deinit_checks, some_started, write_reason, written_mailbox}
use Rattle.rules.specs.Polls.{Boxes, Visit, Turn, closing_notification, object_in, visit_all, turn_all, boxes_of, confirmation, indication, closing, mode_change, going_off}
use Rattle.rules.specs.Events as events
use Rattle.rules.specs.Events.{tx_complete_checks, on_bus_checks, sent_mailbox, filled_mailbox, has_unsent, fits_frame}
use Rattle.rules.specs.Calls.{init_checks, settings_of_object, frame_reason, best_object, stored}
use Rattle.history.specs.Call.{Call, Init, DeInit, SetControllerMode, AskController, Write, MainFunctionWrite, MainFunctionRead, MainFunctionMode, MainFunctionBusOff, TxComplete, BusOffDetected, ErrorsCounted, FrameArrived, performed}
use Rattle.history.specs.Trace.{trace}
use Rattle.history.specs.Effect.{Effect, nothing, configuring, configured, unconfigured, at_object, written, completed, at_controller, mode_asked, question_asked, bus_off, counted, polling, of_writes, of_modes, of_buses_off, accepted_effect, effect}
use Rattle.history.specs.Account.{Account, closed, held, broken, after_sent, after_notification, after_notifications, in_force, after_effect, compared, account_after, account, intact}
use Rattle.history.specs.Demand1.{service_number}
use Rattle.history.specs.Notices.{closes}
use Rattle.laws.proofs.Tests.{cond_both, left, right, clash, decide, neither, not_true, not_false}
use Rattle.laws.proofs.Repeat.{all_facts, replicate_default}
use Rattle.laws.proofs.Reasons.{then_first, then_second, check_passed}
use Rattle.laws.proofs.Pools.{named, taken_member, member_settings}
use Rattle.laws.proofs.Validity.{Valid, owners_placed, core_facts, state_core, settings_agree}
use Rattle.laws.proofs.Changes.{objects_within}
use Rattle.laws.proofs.Objects.{same_bytes_refl, object_laid, object_kept}
use Rattle.laws.proofs.Acceptance.{WritePassed, gate_passed, write_passed}
use Rattle.laws.proofs.Choice.{choice_tells}
use Rattle.laws.proofs.StaysValid.{initial_valid, own_mailbox, pending_facts}
use Rattle.history.proofs.Judged.{judgement, denied, core_done, visits_done, turns_done, received_cases, performed_cases}
use Rattle.history.proofs.Notices.{quiet_error, quiet_passive, closes_named, unclosed, after_more, after_unclosed}
use Rattle.history.proofs.Sweeps.{Here, Keeps, visits_keep_here, turns_keep_here}
use Rattle.history.proofs.Steps.{performed_valid}

-- an empty mailbox is the one at rest
empty_is : (m : Mailbox) → mailbox_empty m ≡ true → m ≡ empty_mailbox
empty_is m e =
    let pending = not m.tx_pending in
    let done = not m.tx_done in
    let full = not m.rx_full in
    let not_pending = not_true m.tx_pending (left pending done (left (pending && done) full e)) in
    let not_done = not_true m.tx_done (right pending done (left (pending && done) full e)) in
    let not_full = not_true m.rx_full (right (pending && done) full e) in
    λ i. record { tx_pending = not_pending i; tx_done = not_done i; rx_full = not_full i }

-- what a valid mailbox says of its flags
pub record Flags (m : Mailbox) : Type 0 where
  pub done_pending : m.tx_done ≡ true → m.tx_pending ≡ true
  pub full_free : m.rx_full ≡ true → m.tx_pending ≡ false

empty_flags : Flags empty_mailbox
empty_flags = record { done_pending = λ e. clash e refl; full_free = λ e. refl }

valid_flags : (receiving started : Bool) (m : Mailbox) → mailbox_valid receiving started m ≡ true → Flags m
valid_flags receiving started m v =
    let x = not m.tx_pending || not receiving && started in
    let y = not m.tx_done || m.tx_pending in
    let z = not m.rx_full || receiving in
    record {
      done_pending = λ e. rw e at (right x y (left (x && y) z v));
      full_free = λ e. go m.tx_pending started (rw (rw e at (right (x && y) z v)) at (left x y (left (x && y) z v)));
    }
  where
    go : (pending st : Bool) → (not pending || not true && st) ≡ true → pending ≡ false
    go false st e = refl
    go true st e = clash e refl

module _ (L : Limits) (core : Core) (v : Valid L core) where
  -- an object that is not in use has an empty mailbox
  pub unused_empty : (h : ℕ) → core.object_count ≤ h → mailbox_at core.mailboxes h ≡ empty_mailbox
  unused_empty h n = go (dec_lt h L.objects)
    where
      go : Dec (h < L.objects) → mailbox_at core.mailboxes h ≡ empty_mailbox
      go (yes l) = empty_is (mailbox_at core.mailboxes h) (rw (le-ltb h core.object_count n) at (v.mailboxes h l))
      go (no l) = get_or-eq_default core.mailboxes empty_mailbox (rw v.mailbox_places (omega arith))

  pub mailbox_flags : (h : ℕ) → Flags (mailbox_at core.mailboxes h)
  mailbox_flags h = go (dec_lt h core.object_count)
    where
      go : Dec (h < core.object_count) → Flags (mailbox_at core.mailboxes h)
      go (yes l) = valid_flags (owner_at core.owners h).receiving (is_started (controller_of core h)) (mailbox_at core.mailboxes h) (own_mailbox L core v h l)
      go (no l) = subst (λ (m : Mailbox). Flags m) (sym (unused_empty h (omega arith))) empty_flags

  -- an object in use names a controller in use
  own_controller_in_use : (h : ℕ) → h < core.object_count → (owner_at core.owners h).controller < core.controller_count
  own_controller_in_use h l =
      let within = objects_within L core v in
      ltb-true (owner_at core.owners h).controller core.controller_count (rw (lt-ltb h core.object_count l) at (owners_placed L core v h (omega arith)))

  -- an object whose controller is not STARTED has no pending frame
  pub stopped_free : (h : ℕ) → is_started (controller_of core h) ≡ false → (mailbox_at core.mailboxes h).tx_pending ≡ false
  stopped_free h stopped = go (dec_lt h core.object_count) (decide (mailbox_at core.mailboxes h).tx_pending)
    where
      go : Dec (h < core.object_count) → ((mailbox_at core.mailboxes h).tx_pending ≡ true) ⊎ ((mailbox_at core.mailboxes h).tx_pending ≡ false) → (mailbox_at core.mailboxes h).tx_pending ≡ false
      go (no l) q = ap (λ (m : Mailbox). m.tx_pending) (unused_empty h (omega arith))
      go (yes l) (inr e) = e
      go (yes l) (inl e) =
          let o = owner_at core.owners h in
          clash (right (not o.receiving) (is_started (controller_of core h)) (pending_facts o.receiving (is_started (controller_of core h)) (mailbox_at core.mailboxes h) (own_mailbox L core v h l) e)) stopped

  -- where no controller is STARTED nothing is pending
  none_started_pending : (h : ℕ) → (not core.initialised || some_started core) ≡ false → (mailbox_at core.mailboxes h).tx_pending ≡ false
  none_started_pending h t = go (dec_lt h core.object_count)
    where
      stopped : ℕ → Bool
      stopped c = not (is_started (controller_at core.controllers c))

      go : Dec (h < core.object_count) → (mailbox_at core.mailboxes h).tx_pending ≡ false
      go (no l) = ap (λ (m : Mailbox). m.tx_pending) (unused_empty h (omega arith))
      go (yes l) =
          let all_stopped = not_false (all_below core.controller_count stopped) (neither (not core.initialised) (some_started core) t).1 in
          stopped_free h (not_true (is_started (controller_of core h)) (all_facts core.controller_count stopped all_stopped (owner_at core.owners h).controller (own_controller_in_use h l)))

  -- a place in use lies among the mailboxes
  inside : (i : ℕ) → i < core.object_count → i < length core.mailboxes
  inside i l = let within = objects_within L core v in rw v.mailbox_places (omega arith)

-- the account agrees with the mailbox and with the object's bytes
abbrev pub Matches : Mailbox → List ℕ → Account → Type 0
Matches m bytes closed = m.tx_pending ≡ false
Matches m bytes (held k b sent) = (m.tx_pending ≡ true) × (m.tx_done ≡ sent) × (bytes ≡ b) × (handle_in b ≡ k)
Matches m bytes broken = ⊥

matches_intact : (m : Mailbox) (bytes : List ℕ) (a : Account) → Matches m bytes a → intact a ≡ true
matches_intact m bytes closed p = refl
matches_intact m bytes (held k b sent) p = refl
matches_intact m bytes broken p = absurd p

-- without a pending frame no write is open
not_held : (m : Mailbox) (bytes : List ℕ) (a : Account) → Matches m bytes a → m.tx_pending ≡ false → a ≡ closed
not_held m bytes closed p e = refl
not_held m bytes (held k b sent) p e = clash p.0 e
not_held m bytes broken p e = absurd p

-- the closing notice of a pending object carries its handle, and a confirmation comes where the frame was sent
own_closing : (h : ℕ) (m : Mailbox) (bytes : List ℕ) (a : Account) → Matches m bytes a → m.tx_pending ≡ true → after_notification h a (closing_notification m h (handle_in bytes)) ≡ closed
own_closing h m bytes closed p pending = clash pending p
own_closing h m bytes (held k b sent) p pending =
    let own_handle : handle_in bytes ≡ k = ap handle_in p.2 ∙ p.3 in
    cond_both (λ (n : Notification). after_notification h (held k b sent) n ≡ closed) m.tx_done (tx_confirmation h (handle_in bytes)) (tx_cancellation h (handle_in bytes))
    (λ done. let was_sent : sent ≡ true = sym p.1 ∙ done in rw (eq-eqb h h refl, was_sent, own_handle, eq-eqb k k refl))
    (λ waits. rw (eq-eqb h h refl, own_handle, eq-eqb k k refl))
own_closing h m bytes broken p pending = absurd p

-- The sweeps of the polls, for objects of so many bytes

module _ (size h : ℕ) (ram : List ℕ) where
  -- a visit suits the account of object h: where the object is due, its notification leaves no write open, and any other object's names that one
  record Suits (v : Visit) : Type 0 where
    own : (m : Mailbox) (a : Account) → Matches m (object_in size ram h) a → Flags m → v.due h m ≡ true → after_notification h a (v.note h m) ≡ closed
    other : (i : ℕ) (m : Mailbox) → (i ≡ h → ⊥) → closes h (v.note i m) ≡ false

  confirmation_suits : Suits (confirmation size ram)
  confirmation_suits =
      record {
        own = λ m a p flags done. own_closing h m (object_in size ram h) a p (flags.done_pending done);
        other = λ i m d. closes_named h i _ m ∙ ne_eqb i h d;
      }

  indication_suits : (length_size : ℕ) → Suits (indication size length_size ram)
  indication_suits length_size =
      record { own = λ m a p flags full. not_held m (object_in size ram h) a p (flags.full_free full); other = λ i m d. refl }

  closing_suits : (owners : List Owner) (c : ℕ) → Suits (closing size owners ram c)
  closing_suits owners c =
      record {
        own = λ m a p flags t. own_closing h m (object_in size ram h) a p (right (eqb (owner_at owners h).controller c) m.tx_pending t);
        other = λ i m d. closes_named h i _ m ∙ ne_eqb i h d;
      }

  module _ (a : Account) where
    -- a sweep on its way: the account, fed the notifications so far, agrees with the mailbox
    record OnWay (m : Mailbox) (ns : List Notification) : Type 0 where
      agrees : Matches m (object_in size ram h) (after_notifications h a ns)
      flags : Flags m

    -- one notification more, which does not close the object
    still_on_way : (m : Mailbox) (ns : List Notification) (n : Notification) → closes h n ≡ false → OnWay m ns → OnWay m (ns ++ (n ∷ []))
    still_on_way m ns n quiet q =
        record { agrees = subst (λ (x : Account). Matches m (object_in size ram h) x) (sym (after_unclosed h a ns n quiet)) q.agrees; flags = q.flags }

    suits_keeps : (v : Visit) → Suits v → Keeps h OnWay v
    suits_keeps v suits =
        record {
          own = λ m ns q due. record {
            agrees = subst (λ (x : Account). Matches empty_mailbox (object_in size ram h) x) (sym (after_more h a ns (v.note h m) ∙ suits.own m (after_notifications h a ns) q.agrees q.flags due)) refl;
            flags = empty_flags;
          };
          other = λ i x m ns d q. still_on_way m ns (v.note i x) (suits.other i x d) q;
        }

    visits_on_way : (v : Visit) → Suits v → (n : ℕ) (b : Boxes) → Here h OnWay b → Here h OnWay (visit_all v n b)
    visits_on_way v suits = visits_keep_here h OnWay v (suits_keeps v suits)

    -- the notification of a turn closes nothing
    turns_on_way : (t : Turn) (core : Core) → ((c : ℕ) (k : Controller) → closes h (t.note c k) ≡ false) → Here h OnWay (boxes_of core) → Here h OnWay (turn_all size t core ram).boxes
    turns_on_way t core quiet =
        turns_keep_here h OnWay size t core ram (λ c k m ns q. still_on_way m ns (t.note c k) (quiet c k) q) (λ c. suits_keeps (closing size core.owners ram c) (closing_suits core.owners c))

module _ (L : Limits) (F : Format) (h : ℕ) where
  -- the configuration that a state has
  abbrev pub configuration : State F → Configuration F
  configuration s = record { controller_count = s.core.controller_count; object_count = s.core.object_count; owners = s.core.owners; settings = s.settings }

  abbrev bytes_in : List ℕ → List ℕ
  bytes_in ram = object_in L.object_size ram h

  -- the comparison passes
  compared_same : (m : Mailbox) (ram : List ℕ) (a : Account) → Matches m (bytes_in ram) a → compared L F h ram a ≡ a
  compared_same m ram closed p = refl
  compared_same m ram (held k b sent) p = rw (p.2, same_bytes_refl b)
  compared_same m ram broken p = absurd p

  -- an accepted sent event of the object itself
  own_sent : (m : Mailbox) (ram : List ℕ) (a : Account) → Matches m (bytes_in ram) a → m.tx_pending ≡ true → m.tx_done ≡ false
      → Matches sent_mailbox (bytes_in ram) (compared L F h ram (after_sent a))
  own_sent m ram closed p pending unsent = clash pending p
  own_sent m ram (held k b sent) p pending unsent =
      let not_sent : sent ≡ false = sym p.1 ∙ unsent in
      let marked : compared L F h ram (after_sent (held k b sent)) ≡ held k b true = rw (not_sent, p.2, same_bytes_refl b) in
      subst (λ (x : Account). Matches sent_mailbox (bytes_in ram) x) (sym marked) (refl, refl, p.2, p.3)
  own_sent m ram broken p pending unsent = absurd p

  module _ (s : State F) (v : Valid L s.core) (ram : List ℕ) (a : Account) (p : Matches (mailbox_at s.core.mailboxes h) (object_in L.object_size ram h) a) where
    -- the account after the call agrees with what the call left
    abbrev Agrees : Effect F → Outcome (State F) → Type 0
    Agrees e o = Matches (mailbox_at o.state.core.mailboxes h) (bytes_in o.ram) (account_after L F h (configuration s) a e o)

    abbrev before : Mailbox
    before = mailbox_at s.core.mailboxes h

    -- a call after which the mailbox, the bytes and the account are as they were
    kept : (e : Effect F) (o : Outcome (State F)) → mailbox_at o.state.core.mailboxes h ≡ before → bytes_in o.ram ≡ bytes_in ram → after_effect L F h (configuration s) a e ≡ a
        → after_notifications h a o.notifications ≡ a → Agrees e o
    kept e o same_mailbox same_object same_account quiet =
        let m = mailbox_at o.state.core.mailboxes h in
        let p' : Matches m (bytes_in o.ram) a = subst₂ (λ (x : Mailbox) (y : List ℕ). Matches x y a) (sym same_mailbox) (sym same_object) p in
        subst (λ (x : Account). Matches m (bytes_in o.ram) x)
        (sym (ap (λ (x : Account). after_notifications h (compared L F h o.ram x) o.notifications) same_account ∙ ap (λ (x : Account). after_notifications h x o.notifications) (compared_same m o.ram a p') ∙ quiet)) p'

    -- no write is open, before and after, and the call is none of this object's
    stays_closed : (e : Effect F) (o : Outcome (State F)) → after_effect L F h (configuration s) a e ≡ a → before.tx_pending ≡ false
        → (mailbox_at o.state.core.mailboxes h).tx_pending ≡ false → after_notifications h closed o.notifications ≡ closed → Agrees e o
    stays_closed e o same free free' quiet =
        subst (λ (x : Account). Matches (mailbox_at o.state.core.mailboxes h) (bytes_in o.ram) x)
        (sym (ap (λ (x : Account). after_notifications h (compared L F h o.ram x) o.notifications) (same ∙ not_held before (bytes_in ram) a p free) ∙ quiet)) free'

    -- a mailbox that is set
    own_set : (m : Mailbox) → h < s.core.object_count → mailbox_at (set s.core.mailboxes h m) h ≡ m
    own_set m l = get_or-set_same s.core.mailboxes h m empty_mailbox (inside L s.core v h l)

    other_set : (i : ℕ) (m : Mailbox) → (i ≡ h → ⊥) → mailbox_at (set s.core.mailboxes i m) h ≡ before
    other_set i m d = get_or-set_other s.core.mailboxes i h m empty_mailbox (λ e. d (sym e))

    -- bytes are laid down in object i
    abbrev laid_in : ℕ → Mailbox → List ℕ → Answer → Outcome (State F)
    laid_in i m bytes answer = accepted answer (with_core s (with_mailboxes s.core (set s.core.mailboxes i m))) (splice (object_start L i) bytes ram) []

    laid_elsewhere : (e : Effect F) (i : ℕ) (m : Mailbox) (bytes : List ℕ) (answer : Answer) → (i ≡ h → ⊥) → i < s.core.object_count → length bytes ≡ L.object_size → length ram ≡ ram_size L
        → after_effect L F h (configuration s) a e ≡ a → Agrees e (laid_in i m bytes answer)
    unfolding after_notifications
    laid_elsewhere e i m bytes answer d l fills whole same =
        let within = objects_within L s.core v in
        kept e (laid_in i m bytes answer) (other_set i m d) (object_kept L bytes ram fills whole i (omega arith) h (λ x. d (sym x))) same refl

    -- the member that a write takes: it is in use and free, and the frame fills it
    record Takes (i handle : ℕ) (frame : F.Frame) : Type 0 where
      pub in_use : i < s.core.object_count
      pub free : (mailbox_at s.core.mailboxes i).tx_pending ≡ false
      pub fills : length (F.object_bytes (settings_of_object L F s i) handle frame) ≡ L.object_size

    -- an accepted write that the object itself takes opens it
    own_write : Lawful L F → (handle : ℕ) → handle < 2 ^ 16 → (frame : F.Frame) (answer : Answer) → Takes h handle frame → length ram ≡ ram_size L
        → Agrees (at_object h (written handle frame)) (laid_in h written_mailbox (F.object_bytes (settings_of_object L F s h) handle frame) answer)
    unfolding after_notifications
    own_write lawful handle fits frame answer w whole =
        let settings = settings_of_object L F s h in
        let bytes = F.object_bytes settings handle frame in
        let ram' = splice (object_start L h) bytes ram in
        let l = w.in_use in
        let within = objects_within L s.core v in
        let laid = object_laid L bytes ram w.fills whole h (omega arith) in
        let a_closed = not_held before (bytes_in ram) a p w.free in
        let opened : compared L F h ram' (held handle bytes false) ≡ held handle bytes false = rw (laid, same_bytes_refl bytes) in
        rw (eq-eqb h h refl, own_set written_mailbox l, a_closed, opened) (refl, refl, laid, lawful.handle_kept settings handle frame fits)

    write_agrees : Lawful L F → (i handle : ℕ) → handle < 2 ^ 16 → (frame : F.Frame) (answer : Answer) → Takes i handle frame → length ram ≡ ram_size L → Dec (i ≡ h)
        → Agrees (at_object i (written handle frame)) (laid_in i written_mailbox (F.object_bytes (settings_of_object L F s i) handle frame) answer)
    write_agrees lawful i handle fits frame answer w whole (yes e) = rw e (own_write lawful handle fits frame answer (rw e at w) whole)
    write_agrees lawful i handle fits frame answer w whole (no d) =
        laid_elsewhere (at_object i (written handle frame)) i written_mailbox (F.object_bytes (settings_of_object L F s i) handle frame) answer d
        w.in_use w.fills whole (rw (ne_eqb i h d))

    -- the free member of a pool that a write names takes it: its settings agree with those by which the frame was judged
    member_takes : Lawful L F → valid L F s ≡ true → (i handle : ℕ) (frame : F.Frame) → WritePassed s.core i (frame_reason L F s i frame) → Takes (free_member s.core i) handle frame
    member_takes lawful sound i handle frame w =
        let m = free_member s.core i in
        let n = named s.core i w.pool_named in
        let t = taken_member s.core i n in
        let alike = member_settings F s.core s.settings i m (settings_agree L F s sound) n t in
        record {
          in_use = t.in_use;
          free = w.free;
          fills = lawful.written_fills (settings_of_object L F s m) handle frame (lawful.carried_alike (settings_of_object L F s m) (settings_of_object L F s i) frame alike w.frame_fits);
        }

    sent_agrees : (i : ℕ) → is_sending s.core i ≡ true → has_unsent (mailbox_at s.core.mailboxes i) ≡ true → Dec (i ≡ h)
        → Agrees (at_object i completed) (core_done L F s ram (with_mailboxes s.core (set s.core.mailboxes i sent_mailbox)) [])
    unfolding after_notifications
    sent_agrees i sending unsent (yes e) =
        let l = ltb-true i s.core.object_count (left (ltb i s.core.object_count) (not (owner_at s.core.owners i).receiving) sending) in
        let unsent' : has_unsent before ≡ true = rw e at unsent in
        rw (e, eq-eqb h h refl, own_set sent_mailbox (rw e at l))
        (own_sent before ram a p (left before.tx_pending (not before.tx_done) unsent') (not_true before.tx_done (right before.tx_pending (not before.tx_done) unsent')))
    sent_agrees i sending unsent (no d) =
        kept (at_object i completed) (core_done L F s ram (with_mailboxes s.core (set s.core.mailboxes i sent_mailbox)) []) (other_set i sent_mailbox d) refl (rw (ne_eqb i h d)) refl

    -- a frame that arrives goes to a receiving object, which has no pending frame
    stored_agrees : Lawful L F → (c : ℕ) (frame : F.Frame) (i : ℕ) → best_object L F s c frame false ≡ some i → length ram ≡ ram_size L → first_reason (F.arrival_checks frame) ≡ 0
        → Agrees nothing (stored L F s ram frame i)
    unfolding events.best_object after_notifications
    stored_agrees lawful c frame i e whole frame_fits = go (ℕ_discrete i h)
      where
        chosen : (i < s.core.object_count) × ((owner_at s.core.owners i).receiving ≡ true)
        chosen =
            let o = owner_at s.core.owners i in
            let accepts = F.accepts (settings_of_object L F s i) frame in
            let found = choice_tells _ _ s.core.object_count (some i) e in
            let fits = left (fits_frame c o accepts) _ found.fitting in
            (found.below, left o.receiving (eqb o.controller c) (left (o.receiving && eqb o.controller c) accepts fits))

        free : (b : Bool) → (mailbox_at s.core.mailboxes i).tx_pending ≡ b → b ≡ false
        free false q = refl
        free true q =
            let o = owner_at s.core.owners i in
            let both = pending_facts o.receiving (is_started (controller_of s.core i)) (mailbox_at s.core.mailboxes i) (own_mailbox L s.core v i chosen.0) q in
            clash chosen.1 (not_true o.receiving (left (not o.receiving) (is_started (controller_of s.core i)) both))

        go : Dec (i ≡ h) → Agrees nothing (stored L F s ram frame i)
        go (yes same) =
            stays_closed nothing (stored L F s ram frame i) refl
            (subst (λ (j : ℕ). (mailbox_at s.core.mailboxes j).tx_pending ≡ false) same (free (mailbox_at s.core.mailboxes i).tx_pending refl))
            (rw (same, own_set filled_mailbox (subst (λ (j : ℕ). j < s.core.object_count) same chosen.0))) refl
        go (no d) = laid_elsewhere nothing i filled_mailbox _ (stored_in i) d chosen.0 (lawful.arrived_fills (settings_of_object L F s i) frame frame_fits) whole refl

    -- the polls

    starts : Here h (OnWay L.object_size h ram a) (boxes_of s.core)
    unfolding after_notifications
    starts = record { agrees = p; flags = mailbox_flags L s.core v h }

    visits_agree : (e : Effect F) (visit : Visit) → Suits L.object_size h ram visit → after_effect L F h (configuration s) a e ≡ a → Agrees e (visits_done L F s ram visit)
    visits_agree e visit suits none_own =
        rw (none_own, compared_same before ram a p) (visits_on_way L.object_size h ram a visit suits s.core.object_count (boxes_of s.core) starts).agrees

    turns_agree : (e : Effect F) (t : Turn) → ((c : ℕ) (k : Controller) → closes h (t.note c k) ≡ false) → after_effect L F h (configuration s) a e ≡ a → Agrees e (turns_done L F s ram t)
    turns_agree e t quiet none_own =
        rw (none_own, compared_same before ram a p) (turns_on_way L.object_size h ram a t s.core quiet starts).agrees

    done_agrees : Lawful L F → (call : Call F) → (judgement L F call s ram).reason ≡ 0 → Agrees (accepted_effect F call (judgement L F call s ram).done.answer) (judgement L F call s ram).done
    unfolding after_notifications reasons_named
    done_agrees lawful (Init sheet bytes) r =
        let checks = init_checks L F s bytes in
        let own = then_second (full_gate L F s (length sheet) ram) (first_reason checks) r in
        let none_used = eqb-true s.core.object_count 0 (right (eqb s.core.controller_count 0) (eqb s.core.object_count 0) (rw (check_passed 0 checks refl own) at v.counts)) in
        stays_closed (configuring (configured bytes)) (judgement L F (Init sheet bytes) s ram).done refl
        (ap (λ (m : Mailbox). m.tx_pending) (unused_empty L s.core v h (omega arith))) (ap (λ (m : Mailbox). m.tx_pending) (replicate_default L.objects h empty_mailbox)) refl
    done_agrees lawful (DeInit sheet) r =
        let checks = deinit_checks s.core in
        stays_closed (configuring unconfigured) (judgement L F (DeInit sheet) s ram).done refl
        (none_started_pending L s.core v h (check_passed 0 checks refl (then_second (full_gate L F s (length sheet) ram) (first_reason checks) r)))
        (ap (λ (m : Mailbox). m.tx_pending) (replicate_default L.objects h empty_mailbox)) refl
    done_agrees lawful (SetControllerMode sheet c asked) r = kept (at_controller c (mode_asked asked)) (judgement L F (SetControllerMode sheet c asked) s ram).done refl refl refl refl
    done_agrees lawful (AskController q sheet c) r = kept (at_controller c (question_asked q)) (judgement L F (AskController q sheet c) s ram).done refl refl refl refl
    done_agrees lawful (Write sheet i handle fits frame) r =
        let gate = full_gate L F s (length sheet) ram in
        let own = write_reason s.core i (frame_reason L F s i frame) in
        let m = free_member s.core i in
        let passed = gate_passed L F s (length sheet) ram (then_first gate own r) in
        let w = write_passed s.core i (frame_reason L F s i frame) (then_second gate own r) in
        write_agrees lawful m handle fits frame (taken_by m) (member_takes lawful passed.sound i handle frame w) passed.ram_whole (ℕ_discrete m h)
    done_agrees lawful (MainFunctionWrite sheet) r = visits_agree (polling of_writes) _ (confirmation_suits L.object_size h ram) refl
    done_agrees lawful (MainFunctionRead sheet) r = visits_agree nothing _ (indication_suits L.object_size h ram L.length_size) refl
    done_agrees lawful (MainFunctionMode sheet) r = turns_agree (polling of_modes) mode_change (λ c k. refl) refl
    done_agrees lawful (MainFunctionBusOff sheet) r = turns_agree (polling of_buses_off) going_off (λ c k. refl) refl
    done_agrees lawful (TxComplete i) r =
        let checks = tx_complete_checks s.core i in
        let own = then_second (state_gate L F s) (first_reason checks) r in
        sent_agrees i (not_false (is_sending s.core i) (check_passed 1 checks refl own)) (not_false (has_unsent (mailbox_at s.core.mailboxes i)) (check_passed 2 checks refl own)) (ℕ_discrete i h)
    done_agrees lawful (BusOffDetected c) r = kept (at_controller c bus_off) (judgement L F (BusOffDetected c) s ram).done refl refl refl refl
    done_agrees lawful (ErrorsCounted sheet c tx rx) r =
        kept (at_controller c (counted tx rx)) (judgement L F (ErrorsCounted sheet c tx rx) s ram).done refl refl refl (unclosed h _ a (quiet_passive (closes h) (λ i t x. refl) c tx rx (controller_at s.core.controllers c) (errors_at s.core.errors c)))
    done_agrees lawful (FrameArrived sheet c frame) r =
        let gate = full_gate L F s (length sheet) ram in
        let bus = first_reason (on_bus_checks s.core c) in
        let own = first_reason (F.arrival_checks frame) in
        received_cases L F s ram c frame (Agrees nothing) (kept nothing (accepted unwanted s ram []) refl refl refl refl) (λ i. kept nothing (accepted lost s ram (data_lost i ∷ [])) refl refl refl refl)
        (λ i e. stored_agrees lawful c frame i e (gate_passed L F s (length sheet) ram (then_first gate (bus then own) r)).ram_whole (then_second bus own (then_second gate (bus then own) r)))

    pub performed_agrees : Lawful L F → (call : Call F) → Agrees (effect F call (performed L F call s ram)) (performed L F call s ram)
    performed_agrees lawful call =
        performed_cases L F Agrees call s ram
        (λ refused. kept nothing (denied L F call s ram) refl refl refl (unclosed h _ a (quiet_error (closes h) (λ service error. refl) (service_number F call) (judgement L F call s ram).reason)))
        (done_agrees lawful call)

  -- the configuration in force is the state's
  abbrev Forced : State F → Effect F → Outcome (State F) → Type 0
  Forced s e o = in_force L F (configuration s) e ≡ configuration o.state

  done_force : (call : Call F) (s : State F) (ram : List ℕ) → Forced s (accepted_effect F call (judgement L F call s ram).done.answer) (judgement L F call s ram).done
  done_force (Init sheet bytes) s ram = refl
  done_force (DeInit sheet) s ram = refl
  done_force (SetControllerMode sheet c asked) s ram = refl
  done_force (AskController q sheet c) s ram = refl
  done_force (Write sheet i handle fits frame) s ram = refl
  done_force (MainFunctionWrite sheet) s ram = refl
  done_force (MainFunctionRead sheet) s ram = refl
  done_force (MainFunctionMode sheet) s ram = refl
  done_force (MainFunctionBusOff sheet) s ram = refl
  done_force (TxComplete i) s ram = refl
  done_force (BusOffDetected c) s ram = refl
  done_force (ErrorsCounted sheet c tx rx) s ram = refl
  done_force (FrameArrived sheet c frame) s ram = received_cases L F s ram c frame (λ (o : Outcome (State F)). configuration s ≡ configuration o.state) refl (λ i. refl) (λ i e. refl)

  -- what holds of an object between two calls
  pub record Follows (s : State F) (ram : List ℕ) (cfg : Configuration F) (a : Account) : Type 0 where
    pub sound : valid L F s ≡ true
    pub force : cfg ≡ configuration s
    pub matches : Matches (mailbox_at s.core.mailboxes h) (object_in L.object_size ram h) a

  pub follows_on : Lawful L F → (call : Call F) (s : State F) (ram : List ℕ) (cfg : Configuration F) (a : Account) → Follows s ram cfg a
      → Follows (performed L F call s ram).state (performed L F call s ram).ram (in_force L F cfg (effect F call (performed L F call s ram))) (account_after L F h cfg a (effect F call (performed L F call s ram)) (performed L F call s ram))
  follows_on lawful call s ram cfg a f =
      subst⁻¹ (λ (x : Configuration F). Follows (performed L F call s ram).state (performed L F call s ram).ram (in_force L F x (effect F call (performed L F call s ram))) (account_after L F h x a (effect F call (performed L F call s ram)) (performed L F call s ram))) f.force
      (record {
        sound = performed_valid L F lawful call s ram f.sound;
        force = performed_cases L F (Forced s) call s ram (λ refused. refl) (λ r. done_force call s ram);
        matches = performed_agrees s (core_facts L s.core (state_core L F s f.sound)) ram a f.matches lawful call;
      })

  -- any list of calls
  pub account_intact : Lawful L F → (calls : List (Call F)) (s : State F) (ram : List ℕ) (cfg : Configuration F) (a : Account) → Follows s ram cfg a → intact (account L F h cfg a (trace L F calls s ram)) ≡ true
  unfolding trace account
  account_intact lawful [] s ram cfg a f = matches_intact (mailbox_at s.core.mailboxes h) (bytes_in ram) a f.matches
  account_intact lawful (call ∷ calls) s ram cfg a f =
      account_intact lawful calls (performed L F call s ram).state (performed L F call s ram).ram (in_force L F cfg (effect F call (performed L F call s ram))) (account_after L F h cfg a (effect F call (performed L F call s ram)) (performed L F call s ram)) (follows_on lawful call s ram cfg a f)

  -- before initialisation
  pub follows_first : Lawful L F → (ram : List ℕ) → Follows (initial_state L F) ram (no_configuration L F) closed
  follows_first lawful ram =
      record { sound = initial_valid L F lawful; force = refl; matches = ap (λ (m : Mailbox). m.tx_pending) (replicate_default L.objects h empty_mailbox) }
