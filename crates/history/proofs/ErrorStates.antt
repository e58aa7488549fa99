-- Error states and their records follow the calls.
use Prim.Native.Nat.{ℕ, min, ◌≤◌, ◌<◌}
use mathlib.Core.Path.{◌≡◌, refl, ap, ap₂, sym, ◌∙◌}
use mathlib.Core.Bool.{Bool, true, false, not, cond, ◌&&◌, ◌||◌, or-true}
use mathlib.Core.List.{List, [], ◌∷◌}
use native.Mathlib.Omega.{arith}
use native.Mathlib.Decide.{ℕ_discrete, dec_lt}
use lib.ListN.{length, set, get_or-eq_default}
use lib.Seq.{get_or-set_same, get_or-set_other}
use lib.Dec.{eqb, ltb}
use borrow.Author.Tests.{eqb-true, eq-eqb, ne_eqb, le-ltb}
use Rattle.rules.specs.Limits.{Limits}
use Rattle.rules.specs.Format.{Format, Lawful}
use Rattle.rules.specs.Notification.{Notification, tx_confirmation, tx_cancellation, error_passive_indication}
use Rattle.rules.specs.Mode.{STARTED, STOPPED, NO_REQUEST}
use Rattle.rules.specs.Reason.{first_reason, reasons_named}
use Rattle.rules.specs.Errors.{Errors, no_errors, errors_none, above_bus_off}
use Rattle.rules.specs.Core.{Controller, Mailbox, idle_controller, controller_at, errors_at, mailbox_at, error_state}
use Rattle.rules.specs.State.{State, valid, initial_state}
use Rattle.rules.specs.Outcome.{Outcome, Question, of_mode, of_error_state, of_rx_errors, of_tx_errors, told, full_gate, sheet_gate}
use Rattle.rules.specs.Services.{question_service, answer_to}
use Rattle.rules.specs.Polls.{Boxes, Visit, Turn, visit_all, closing_notification, closing, turn_all, boxes_of, mode_change, going_off, errors_all}
use Rattle.rules.specs.Events.{errors_counted_reason, counted_controller, counted_errors, enters_passive, passive_report, marked_bus_off}
use Rattle.rules.specs.Calls.{init_checks}
use Rattle.rules.specs.Configuration.{controllers_byte}
use Rattle.history.specs.Call.{Call, Init, DeInit, SetControllerMode, AskController, Write, MainFunctionWrite, MainFunctionRead, MainFunctionMode, MainFunctionBusOff, TxComplete, BusOffDetected, ErrorsCounted, FrameArrived, performed}
use Rattle.history.specs.Trace.{trace}
use Rattle.history.specs.Effect.{configured, unconfigured, AtController, mode_asked, question_asked, bus_off, counted, Poll, of_writes, of_modes, of_buses_off, Effect, nothing, configuring, at_object, at_controller, polling, accepted_effect, effect}
use Rattle.history.specs.Demand1.{service_number}
use Rattle.history.specs.Reference as references
use Rattle.history.specs.Reference.{Reference, at_first, takes_wish, entry, marked_if, reference_after}
use Rattle.history.specs.Notices.{one_of}
use Rattle.history.specs.Claim.{asks}
use Rattle.history.specs.ErrorStates.{ErrorBook, no_trouble, state_by, answer_by, starts, enters, tells_passive, after_own, after_poll, errors_after, ErrorsTold, AllErrorsTold, ErrorRule}
use Rattle.laws.proofs.Tests.{left, right, clash, cond_both, cond_map, cond_same, not_true, and_false}
use Rattle.laws.proofs.Repeat.{replicate_default}
use Rattle.laws.proofs.Reasons.{then_second, check_passed}
use Rattle.laws.proofs.Acceptance.{counted_passed}
use Rattle.laws.proofs.Validity.{Valid, ErrorsValid, core_facts, error_facts, state_core}
use Rattle.laws.proofs.Changes.{controllers_within}
use Rattle.laws.proofs.Sweeps.{errors_above, errors_below}
use Rattle.laws.proofs.Errors.{errors_facts, own_errors}
use Rattle.laws.proofs.StaysValid.{initial_valid}
use Rattle.history.proofs.Judged.{judgement, received_cases, performed_cases}
use Rattle.history.proofs.Notices.{quiet_error, still_none}
use Rattle.history.proofs.Sweeps.{visits_keep, turns_keep}
use Rattle.history.proofs.Modes.{unused_idle, idle_before, done_follows, performed_follows}
use Rattle.history.proofs.Steps.{performed_valid}

-- what a controller with these errors amounts to, by its mark in the mode book
abbrev booked : ℕ → ℕ → Bool → ErrorBook
booked tx rx off = record { off = off; tx = tx; rx = rx }

abbrev book : Reference → Errors → ErrorBook
book r x = booked x.tx_errors x.rx_errors (r.mark || x.recovering)

-- no book enters passive by staying as it is, nor where it ends without trouble
same_stays : (b : ErrorBook) → enters b b ≡ false
same_stays b = go (state_by b) (eqb (state_by b) 0) refl
  where
    go : (n : ℕ) (t : Bool) → eqb n 0 ≡ t → (t && eqb n 1) ≡ false
    go n true z = rw (eqb-true n 0 z)
    go n false z = refl

untroubled_stays : (b : ErrorBook) → enters b no_trouble ≡ false
untroubled_stays b = and_false (eqb (state_by b) 0)

-- the error state that is answered is the book's, where a transmit count above 255 comes with a mark
abbrev Marked : Controller → Errors → Type 0
Marked k x = above_bus_off x.tx_errors ≡ true → (k.bus_off || x.recovering) ≡ true

state_is : (k : Controller) (x : Errors) → Marked k x → error_state k x ≡ state_by (book (entry k) x)
state_is k x m = go (k.bus_off || x.recovering) (above_bus_off x.tx_errors) m _
  where
    go : (off above : Bool) → (above ≡ true → off ≡ true) → (n : ℕ) → cond (off || above) 2 n ≡ cond off 2 n
    go true above m n = refl
    go false true m n = clash (m refl) refl
    go false false m n = refl

answer_is : (q : Question) (k : Controller) (x : Errors) → Marked k x → answer_to q k x ≡ answer_by q (entry k) (book (entry k) x)
answer_is of_mode k x m = refl
answer_is of_error_state k x m = state_is k x m
answer_is of_rx_errors k x m = refl
answer_is of_tx_errors k x m = refl

-- questions that one service asks are one
same_question : (p q : Question) → eqb (question_service p) (question_service q) ≡ true → p ≡ q
same_question of_mode of_mode t = refl
same_question of_mode of_error_state t = clash t refl
same_question of_mode of_rx_errors t = clash t refl
same_question of_mode of_tx_errors t = clash t refl
same_question of_error_state of_mode t = clash t refl
same_question of_error_state of_error_state t = refl
same_question of_error_state of_rx_errors t = clash t refl
same_question of_error_state of_tx_errors t = clash t refl
same_question of_rx_errors of_mode t = clash t refl
same_question of_rx_errors of_error_state t = clash t refl
same_question of_rx_errors of_rx_errors t = refl
same_question of_rx_errors of_tx_errors t = clash t refl
same_question of_tx_errors of_mode t = clash t refl
same_question of_tx_errors of_error_state t = clash t refl
same_question of_tx_errors of_rx_errors t = clash t refl
same_question of_tx_errors of_tx_errors t = refl

-- The errors after a call, by its effect.
own_next : AtController → Errors → Errors
own_next (counted tx rx) x = counted_errors tx rx x
own_next bus_off x = x
own_next (mode_asked m) x = x
own_next (question_asked q) x = x

poll_next : Reference → Poll → Errors → Errors
poll_next r of_modes x = cond (starts r) no_errors x
poll_next r of_buses_off x = cond r.mark (record { recovering = true; tx_errors = x.tx_errors; rx_errors = x.rx_errors }) x
poll_next r of_writes x = x

module _ (L : Limits) (F : Format) (c : ℕ) where
  errors_next : Reference → Effect F → Errors → Errors
  errors_next r nothing x = x
  errors_next r (configuring y) x = no_errors
  errors_next r (at_object h y) x = x
  errors_next r (at_controller k y) x = cond (eqb k c) (own_next y x) x
  errors_next r (polling p) x = poll_next r p x

  -- the book goes on as errors and mark do; a controller that Init finds is not marked
  Fresh : Reference → Effect F → Type 0
  Fresh r (configuring (configured bytes)) = r.mark ≡ false
  Fresh r (configuring unconfigured) = Unit {0}
  Fresh r nothing = Unit {0}
  Fresh r (at_object h y) = Unit {0}
  Fresh r (at_controller k y) = Unit {0}
  Fresh r (polling p) = Unit {0}

  -- what is asked of, counted for or told to the controller itself
  own_book : (r : Reference) (x : Errors) (y : AtController) → after_own L F c y (book r x) ≡ book (references.after_own L F c y r) (own_next y x)
  unfolding own_next
  own_book r x (mode_asked m) = refl
  own_book r x (question_asked q) = refl
  own_book r x bus_off = ap (booked x.tx_errors x.rx_errors) (or-true (r.mark || x.recovering))
  own_book r x (counted tx rx) = go (above_bus_off tx)
    where
      marked : (m rec above : Bool) → ((m || rec) || above) ≡ ((cond above true m) || rec)
      marked true rec true = refl
      marked true rec false = refl
      marked false true true = refl
      marked false true false = refl
      marked false false true = refl
      marked false false false = refl

      go : (above : Bool) → booked tx rx ((r.mark || x.recovering) || above) ≡ book (marked_if above r) (counted_errors tx rx x)
      go true = ap (booked tx rx) (marked r.mark x.recovering true)
      go false = ap (booked tx rx) (marked r.mark x.recovering false)

  poll_book : (r : Reference) (x : Errors) (p : Poll) → after_poll L F c r p (book r x) ≡ book (references.after_poll L F c p r) (poll_next r p x)
  unfolding poll_next
  poll_book r x of_writes = refl
  poll_book r x of_modes = go (takes_wish r) (eqb r.wish STARTED) (λ t. not_true r.mark (left (not r.mark) (not (eqb r.wish NO_REQUEST)) t))
    where
      go : (takes starting : Bool) → (takes ≡ true → r.mark ≡ false)
          → cond (takes && starting) no_trouble (book r x) ≡ book (cond takes (record { mode = r.wish; wish = NO_REQUEST; mark = r.mark }) r) (cond (takes && starting) no_errors x)
      go true true free = rw (free refl)
      go true false free = refl
      go false starting free = refl
  poll_book r x of_buses_off = go r.mark refl
    where
      go : (m : Bool) → r.mark ≡ m
          → book r x ≡ book (cond m (record { mode = STOPPED; wish = NO_REQUEST; mark = false }) r) (cond m (record { recovering = true; tx_errors = x.tx_errors; rx_errors = x.rx_errors }) x)
      go true e = rw e
      go false e = refl

  book_next : (r : Reference) (x : Errors) (e : Effect F) → Fresh r e → errors_after L F c r (book r x) e ≡ book (reference_after L F c r e) (errors_next r e x)
  unfolding Fresh errors_next
  book_next r x nothing fresh = refl
  book_next r x (at_object h y) fresh = refl
  book_next r x (configuring unconfigured) fresh = refl
  book_next r x (configuring (configured bytes)) fresh = go (ltb c (controllers_byte bytes))
    where
      go : (used : Bool) → no_trouble ≡ book (cond used (record { mode = STOPPED; wish = r.wish; mark = r.mark }) r) no_errors
      go true = rw fresh
      go false = rw fresh
  book_next r x (at_controller k y) fresh = go (eqb k c)
    where
      go : (own : Bool) → cond own (after_own L F c y (book r x)) (book r x) ≡ book (cond own (references.after_own L F c y r) r) (cond own (own_next y x) x)
      go true = own_book r x y
      go false = refl
  book_next r x (polling p) fresh = poll_book r x p

  abbrev control : State F → Controller
  control s = controller_at s.core.controllers c

  abbrev errs : State F → Errors
  errs s = errors_at s.core.errors c

  module _ (s : State F) (ram : List ℕ) (v : Valid L s.core) (w : ErrorsValid L s.core) where
    within : s.core.controller_count ≤ length s.core.errors
    within = rw w.places (controllers_within L s.core v)

    -- a poll over the controllers gives the errors their turn
    turned_errors : (t : Turn) → t.due idle_controller ≡ false
        → cond (t.due (control s)) (t.errors_after (control s) (errs s)) (errs s) ≡ errors_at (errors_all t s.core.controller_count s.core.controllers s.core.errors) c
    turned_errors t idle_waits = go (dec_lt c s.core.controller_count)
      where
        go : Dec (c < s.core.controller_count)
            → cond (t.due (control s)) (t.errors_after (control s) (errs s)) (errs s) ≡ errors_at (errors_all t s.core.controller_count s.core.controllers s.core.errors) c
        go (yes l) = sym (errors_below t s.core.controllers s.core.errors s.core.controller_count within c l)
        go (no l) =
            rw (errors_above t s.core.controllers s.core.errors s.core.controller_count c (omega arith), unused_idle L c s.core v (omega arith), idle_waits)

    -- one controller's errors are counted
    counted_at : (k tx rx : ℕ) → k < s.core.controller_count
        → cond (eqb k c) (counted_errors tx rx (errs s)) (errs s) ≡ errors_at (set s.core.errors k (counted_errors tx rx (errors_at s.core.errors k))) c
    counted_at k tx rx used = go (ℕ_discrete k c)
      where
        go : Dec (k ≡ c) → cond (eqb k c) (counted_errors tx rx (errs s)) (errs s) ≡ errors_at (set s.core.errors k (counted_errors tx rx (errors_at s.core.errors k))) c
        go (yes e) =
            let inside : c < length s.core.errors = omega (arith, within) in
            rw (e, eq-eqb c c refl, get_or-set_same s.core.errors c (counted_errors tx rx (errs s)) no_errors inside)
        go (no d) = rw (ne_eqb k c d, get_or-set_other s.core.errors k c (counted_errors tx rx (errors_at s.core.errors k)) no_errors (λ e. d (sym e)))

    done_errors : (call : Call F) → (judgement L F call s ram).reason ≡ 0
        → errors_next (entry (control s)) (accepted_effect F call (judgement L F call s ram).done.answer) (errs s) ≡ errs (judgement L F call s ram).done.state
    unfolding errors_next own_next poll_next
    done_errors (Init sheet bytes) r = sym (replicate_default L.controllers c no_errors)
    done_errors (DeInit sheet) r = sym (replicate_default L.controllers c no_errors)
    done_errors (SetControllerMode sheet k asked) r = cond_same (eqb k c) (errs s)
    done_errors (AskController q sheet k) r = cond_same (eqb k c) (errs s)
    done_errors (Write sheet h handle fits frame) r = refl
    done_errors (MainFunctionWrite sheet) r = refl
    done_errors (MainFunctionRead sheet) r = refl
    done_errors (MainFunctionMode sheet) r = go (takes_wish (entry (control s))) (eqb (control s).requested_mode STARTED) ∙ turned_errors mode_change refl
      where
        go : (takes starting : Bool) → cond (takes && starting) no_errors (errs s) ≡ cond takes (cond starting no_errors (errs s)) (errs s)
        go true starting = refl
        go false starting = refl
    done_errors (MainFunctionBusOff sheet) r = turned_errors going_off refl
    done_errors (TxComplete h) r = refl
    done_errors (BusOffDetected k) r = cond_same (eqb k c) (errs s)
    done_errors (ErrorsCounted sheet k tx rx) r =
        counted_at k tx rx (counted_passed s.core k tx rx (then_second (sheet_gate L F s (length sheet)) (errors_counted_reason s.core k tx rx) r)).used
    done_errors (FrameArrived sheet k frame) r = received_cases L F s ram k frame (λ (o : Outcome (State F)). errs s ≡ errs o.state) refl (λ h. refl) (λ h e. refl)

    done_fresh : (call : Call F) → (judgement L F call s ram).reason ≡ 0 → Fresh (entry (control s)) (accepted_effect F call (judgement L F call s ram).done.answer)
    unfolding Fresh reasons_named
    done_fresh (Init sheet bytes) r =
        let checks = init_checks L F s bytes in
        ap (λ (k : Controller). k.bus_off) (idle_before L c s.core v (check_passed 0 checks refl (then_second (full_gate L F s (length sheet) ram) (first_reason checks) r)))
    done_fresh (DeInit sheet) r = tt
    done_fresh (SetControllerMode sheet k asked) r = tt
    done_fresh (AskController q sheet k) r = tt
    done_fresh (Write sheet h handle fits frame) r = tt
    done_fresh (MainFunctionWrite sheet) r = tt
    done_fresh (MainFunctionRead sheet) r = tt
    done_fresh (MainFunctionMode sheet) r = tt
    done_fresh (MainFunctionBusOff sheet) r = tt
    done_fresh (TxComplete h) r = tt
    done_fresh (BusOffDetected k) r = tt
    done_fresh (ErrorsCounted sheet k tx rx) r = tt
    done_fresh (FrameArrived sheet k frame) r = tt

    -- the book after the call is what the controller amounts to after it
    abbrev now : State F → ErrorBook
    now x = book (entry (control x)) (errs x)

    abbrev GoesOn : Effect F → Outcome (State F) → Type 0
    GoesOn e o = errors_after L F c (entry (control s)) (now s) e ≡ now o.state

    done_goes_on : (call : Call F) → (judgement L F call s ram).reason ≡ 0 → GoesOn (accepted_effect F call (judgement L F call s ram).done.answer) (judgement L F call s ram).done
    done_goes_on call r =
        book_next (entry (control s)) (errs s) _ (done_fresh call r) ∙ ap₂ book (done_follows L F c call s ram v r) (done_errors call r)

    -- a transmit count above 255 comes with a mark
    marked : Marked (control s) (errs s)
    marked = go (dec_lt c s.core.controller_count)
      where
        at_rest : (x : Errors) → errors_none x ≡ true → above_bus_off x.tx_errors ≡ false
        at_rest x none =
            let cleared = not x.recovering in
            let tx = eqb x.tx_errors 0 in
            rw (eqb-true x.tx_errors 0 (right cleared tx (left (cleared && tx) (eqb x.rx_errors 0) none)))

        not_used : s.core.controller_count ≤ c → Dec (c < L.controllers) → above_bus_off (errs s).tx_errors ≡ false
        not_used past (yes l) = at_rest (errs s) (rw (le-ltb c s.core.controller_count past) at (w.errors c l))
        not_used past (no l) =
            ap (λ (x : Errors). above_bus_off x.tx_errors) (get_or-eq_default s.core.errors no_errors {n = c} (rw w.places (omega arith)))

        go : Dec (c < s.core.controller_count) → Marked (control s) (errs s)
        go (yes l) above =
            rw above at (errors_facts (control s) (errs s) (own_errors L s.core w (controllers_within L s.core v) c l)).marked
        go (no l) above = clash above (not_used (omega arith) (dec_lt c L.controllers))

    -- a question is answered by the book; any other call is none
    abbrev Answers : Question → Effect F → Outcome (State F) → Type 0
    Answers q e o = asks L F q c e ≡ true → o.answer ≡ told q (answer_by q (entry (control o.state)) (now o.state))

    done_answers : (q : Question) (call : Call F) → Answers q (accepted_effect F call (judgement L F call s ram).done.answer) (judgement L F call s ram).done
    done_answers q (AskController p sheet k) t =
        let named = eqb k c in
        let same = eqb (question_service p) (question_service q) in
        ap (λ (i : ℕ). told p (answer_to p (controller_at s.core.controllers i) (errors_at s.core.errors i))) (eqb-true k c (left named same t))
        ∙ ap (λ (x : Question). told x (answer_to x (control s) (errs s))) (same_question p q (right named same t))
        ∙ ap (told q) (answer_is q (control s) (errs s) marked)
    done_answers q (Init sheet bytes) t = clash t refl
    done_answers q (DeInit sheet) t = clash t refl
    done_answers q (SetControllerMode sheet k asked) t = clash t (and_false (eqb k c))
    done_answers q (Write sheet h handle fits frame) t = clash t refl
    done_answers q (MainFunctionWrite sheet) t = clash t refl
    done_answers q (MainFunctionRead sheet) t = clash t refl
    done_answers q (MainFunctionMode sheet) t = clash t refl
    done_answers q (MainFunctionBusOff sheet) t = clash t refl
    done_answers q (TxComplete h) t = clash t refl
    done_answers q (BusOffDetected k) t = clash t (and_false (eqb k c))
    done_answers q (ErrorsCounted sheet k tx rx) t = clash t (and_false (eqb k c))
    done_answers q (FrameArrived sheet k frame) t = clash t refl

    -- which records tell of the controller, by the book after the call
    record Told (after : ErrorBook) (o : Outcome (State F)) : Type 0 where
      entering : enters (now s) after ≡ true → o.notifications ≡ error_passive_indication c (min after.tx 255) (min after.rx 255) ∷ []
      not_entering : enters (now s) after ≡ false → one_of (tells_passive c) o.notifications ≡ false

    abbrev Tells : Effect F → Outcome (State F) → Type 0
    Tells e o = Told (errors_after L F c (entry (control s)) (now s) e) o

    silent : {after : ErrorBook} {o : Outcome (State F)} → enters (now s) after ≡ false → one_of (tells_passive c) o.notifications ≡ false → Told after o
    silent stays quiet = record { entering = λ t. clash t stays; not_entering = λ t. quiet }

    -- a call that leaves the book as it was, in whatever words
    kept : (t : Bool) {o : Outcome (State F)} → one_of (tells_passive c) o.notifications ≡ false → Told (cond t (now s) (now s)) o
    kept t quiet = silent (rw (cond_same t (now s)) (same_stays (now s))) quiet

    -- no poll tells of it
    visits_silent : (visit : Visit) → ((h : ℕ) (m : Mailbox) → tells_passive c (visit.note h m) ≡ false) → one_of (tells_passive c) (visit_all visit s.core.object_count (boxes_of s.core)).notifications ≡ false
    unfolding one_of
    visits_silent visit quiet =
        visits_keep (λ (b : Boxes). one_of (tells_passive c) b.notifications ≡ false) visit
        (λ i b p due. still_none (tells_passive c) b.notifications _ p (quiet i (mailbox_at b.mailboxes i))) s.core.object_count (boxes_of s.core) refl

    closing_silent : (handle h : ℕ) (m : Mailbox) → tells_passive c (closing_notification m h handle) ≡ false
    closing_silent handle h m =
        cond_both (λ (n : Notification). tells_passive c n ≡ false) m.tx_done (tx_confirmation h handle) (tx_cancellation h handle) (λ t. refl) (λ t. refl)

    turns_silent : (t : Turn) → ((i : ℕ) (k : Controller) → tells_passive c (t.note i k) ≡ false) → one_of (tells_passive c) (turn_all L.object_size t s.core ram).boxes.notifications ≡ false
    unfolding one_of
    turns_silent t quiet =
        turns_keep L.object_size t s.core ram (λ (b : Boxes). one_of (tells_passive c) b.notifications ≡ false)
        (λ i k b p. still_none (tells_passive c) b.notifications (t.note i k) p (quiet i k))
        (λ i due leaves b p.
        visits_keep (λ (x : Boxes). one_of (tells_passive c) x.notifications ≡ false) (closing L.object_size s.core.owners ram i)
        (λ h x q gone. still_none (tells_passive c) x.notifications _ q (closing_silent _ h (mailbox_at x.mailboxes h))) s.core.object_count b p)
        refl

    -- the count event itself: of another controller, and of this one, whose error states are those of the books
    counted_other : (k tx rx : ℕ) → eqb k c ≡ false → (o : Outcome (State F)) → o.notifications ≡ passive_report k tx rx (controller_at s.core.controllers k) (errors_at s.core.errors k) → Told (now s) o
    unfolding one_of
    counted_other k tx rx apart o notes =
        silent (same_stays (now s))
        (rw notes
        (cond_both (λ (ns : List Notification). one_of (tells_passive c) ns ≡ false) (enters_passive tx rx (controller_at s.core.controllers k) (errors_at s.core.errors k)) _ [] (λ t. rw apart) (λ t. refl)))

    counted_own : (tx rx : ℕ) (after : ErrorBook) → after.tx ≡ tx → after.rx ≡ rx → enters_passive tx rx (control s) (errs s) ≡ enters (now s) after
        → (o : Outcome (State F)) → o.notifications ≡ passive_report c tx rx (control s) (errs s) → Told after o
    unfolding one_of
    counted_own tx rx after same_tx same_rx same o notes =
        record {
          entering = λ t. rw (notes, same, t, same_tx, same_rx);
          not_entering = λ t. rw (notes, same, t);
        }

    -- the error state after the count is that of the book
    abbrev counted_book : ℕ → ℕ → ErrorBook
    counted_book tx rx = after_own L F c (counted tx rx) (now s)

    counted_state : (tx rx : ℕ) → error_state (counted_controller tx (control s)) (counted_errors tx rx (errs s)) ≡ state_by (counted_book tx rx)
    unfolding own_next
    counted_state tx rx =
        state_is (counted_controller tx (control s)) (counted_errors tx rx (errs s)) (λ above. rw above)
        ∙ ap (λ (r : Reference). state_by (book r (counted_errors tx rx (errs s)))) (cond_map entry (above_bus_off tx) (marked_bus_off (control s)) (control s))
        ∙ ap state_by (sym (own_book (entry (control s)) (errs s) (counted tx rx)))

    done_tells : (call : Call F) → (judgement L F call s ram).reason ≡ 0 → Tells (accepted_effect F call (judgement L F call s ram).done.answer) (judgement L F call s ram).done
    unfolding one_of
    done_tells (Init sheet bytes) r = silent (untroubled_stays (now s)) refl
    done_tells (DeInit sheet) r = silent (untroubled_stays (now s)) refl
    done_tells (SetControllerMode sheet k asked) r = kept (eqb k c) refl
    done_tells (AskController q sheet k) r = kept (eqb k c) refl
    done_tells (Write sheet h handle fits frame) r = silent (same_stays (now s)) refl
    done_tells (MainFunctionWrite sheet) r = silent (same_stays (now s)) (visits_silent _ (λ h m. closing_silent _ h m))
    done_tells (MainFunctionRead sheet) r = silent (same_stays (now s)) (visits_silent _ (λ h m. refl))
    done_tells (MainFunctionMode sheet) r =
        silent (cond_both (λ (b : ErrorBook). enters (now s) b ≡ false) (starts (entry (control s))) no_trouble (now s) (λ t. untroubled_stays (now s)) (λ t. same_stays (now s)))
        (turns_silent mode_change (λ i k. refl))
    done_tells (MainFunctionBusOff sheet) r = silent (same_stays (now s)) (turns_silent going_off (λ i k. refl))
    done_tells (TxComplete h) r = silent (same_stays (now s)) refl
    done_tells (BusOffDetected k) r = silent (bus_off_stays (eqb k c)) refl
      where
        bus_off_stays : (own : Bool) → enters (now s) (cond own (after_own L F c bus_off (now s)) (now s)) ≡ false
        bus_off_stays true = rw (or-true (now s).off) (and_false (eqb (state_by (now s)) 0))
        bus_off_stays false = same_stays (now s)
    done_tells (ErrorsCounted sheet k tx rx) r = go (ℕ_discrete k c)
      where
        o : Outcome (State F)
        o = (judgement L F (ErrorsCounted sheet k tx rx) s ram).done

        go : Dec (k ≡ c) → Told (cond (eqb k c) (counted_book tx rx) (now s)) o
        go (yes e) =
            rw (eq-eqb k c e)
            (counted_own tx rx (counted_book tx rx) refl refl (ap₂ (λ (x y : ℕ). eqb x 0 && eqb y 1) (state_is (control s) (errs s) marked) (counted_state tx rx)) o
            (ap (λ (i : ℕ). passive_report i tx rx (controller_at s.core.controllers i) (errors_at s.core.errors i)) e))
        go (no d) = rw (ne_eqb k c d) (counted_other k tx rx (ne_eqb k c d) o refl)
    done_tells (FrameArrived sheet k frame) r = received_cases L F s ram k frame (λ (o : Outcome (State F)). Told (now s) o) (silent (same_stays (now s)) refl) (λ h. silent (same_stays (now s)) refl) (λ h e. silent (same_stays (now s)) refl)

  -- one call
  module _ (call : Call F) (s : State F) (ram : List ℕ) (sound : valid L F s ≡ true) where
    facts : Valid L s.core
    facts = core_facts L s.core (state_core L F s sound)

    error_parts : ErrorsValid L s.core
    error_parts = error_facts L s.core (state_core L F s sound)

    performed_goes_on : GoesOn s ram facts error_parts (effect F call (performed L F call s ram)) (performed L F call s ram)
    performed_goes_on = performed_cases L F (GoesOn s ram facts error_parts) call s ram (λ refused. refl) (done_goes_on s ram facts error_parts call)

    errors_told : ErrorsTold L F c (entry (control (performed L F call s ram).state)) (now s ram facts error_parts s)
        (errors_after L F c (entry (control s)) (now s ram facts error_parts s) (effect F call (performed L F call s ram))) (effect F call (performed L F call s ram)) (performed L F call s ram)
    unfolding one_of
    errors_told =
        let tells =
        performed_cases L F (Tells s ram facts error_parts) call s ram
        (λ refused. silent s ram facts error_parts (same_stays (now s ram facts error_parts s)) (quiet_error (tells_passive c) (λ service error. refl) (service_number F call) (judgement L F call s ram).reason))
        (done_tells s ram facts error_parts call) in
        record {
          answered = λ q t.
              performed_cases L F (Answers s ram facts error_parts q) call s ram (λ refused u. clash u refl) (λ r. done_answers s ram facts error_parts q call) t
              ∙ ap (λ (b : ErrorBook). told q (answer_by q (entry (control (performed L F call s ram).state)) b)) (sym performed_goes_on);
          entering = tells.entering;
          not_entering = tells.not_entering;
        }

  -- any list of calls
  all_told : Lawful L F → (calls : List (Call F)) (s : State F) (ram : List ℕ) (r : Reference) (b : ErrorBook) → valid L F s ≡ true → r ≡ entry (control s) → b ≡ book (entry (control s)) (errs s)
      → AllErrorsTold L F c r b (trace L F calls s ram)
  unfolding trace
  all_told lawful [] s ram r b sound e same = tt
  all_told lawful (call ∷ calls) s ram r b sound e same =
      let o = performed L F call s ram in
      let follows = performed_follows L F c call s ram sound in
      rw (e, same) (
        rw follows (errors_told call s ram sound),
        all_told lawful calls o.state o.ram _ _ (performed_valid L F lawful call s ram sound) follows (performed_goes_on call s ram sound),
      )

-- every controller, every list of calls, and every first memory
pub error_rule : (L : Limits) (F : Format) → Lawful L F → ErrorRule L F
error_rule L F lawful c calls ram =
    all_told L F c lawful calls (initial_state L F) ram at_first no_trouble (initial_valid L F lawful)
    (ap entry (sym (replicate_default L.controllers c idle_controller)))
    (rw (replicate_default L.controllers c idle_controller, replicate_default L.controllers c no_errors))
