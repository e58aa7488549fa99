-- The poll rule: after an accepted sent event the first poll that closes the object confirms it with its own write's handle.
use Prim.Native.Nat.{ℕ, ◌<◌}
use mathlib.Core.Path.{◌≡◌, refl, ap, sym, ◌∙◌, subst}
use mathlib.Core.Bool.{Bool, true, false, not, cond, ◌&&◌}
use mathlib.Core.List.{List, [], ◌∷◌, ◌++◌}
use mathlib.Core.Logic.{◌⊎◌, inl, inr, ⊎_elim}
use native.Mathlib.Omega.{arith}
use native.Mathlib.Decide.{dec_lt}
use lib.Dec.{eqb}
use borrow.Author.Tests.{eq-eqb, eqb-true}
use Rattle.rules.specs.Limits.{Limits}
use Rattle.rules.specs.Format.{Format, Lawful}
use Rattle.rules.specs.Bytes.{same_bytes}
use Rattle.rules.specs.Mode.{STARTED, STOPPED, NO_REQUEST}
use Rattle.rules.specs.Notification.{Notification, tx_confirmation, rx_indication, mode_indication, bus_off_indication, development_error, data_lost, tx_cancellation, error_passive_indication}
use Rattle.rules.specs.Core.{Mailbox, empty_mailbox, idle_controller, controller_at, owner_at, mailbox_at}
use Rattle.rules.specs.Configuration.{Configuration, no_configuration}
use Rattle.rules.specs.State.{State, initial_state}
use Rattle.rules.specs.Outcome.{Outcome}
use Rattle.rules.specs.Polls.{object_in, boxes_of, confirmation}
use Rattle.history.specs.Call.{Call, Init, DeInit, SetControllerMode, AskController, Write, MainFunctionWrite, MainFunctionRead, MainFunctionMode, MainFunctionBusOff, TxComplete, BusOffDetected, ErrorsCounted, FrameArrived, performed}
use Rattle.history.specs.Trace.{trace, left_by, is_accepted}
use Rattle.history.specs.Effect.{AtObject, written, completed, Effect, nothing, configuring, at_object, at_controller, polling, accepted_effect, effect}
use Rattle.history.specs.Account.{Account, closed, held, broken, after_sent, after_notification, after_notifications, in_force, force_by, after_own, after_effect, compared, account_after, account}
use Rattle.history.specs.Reference.{entry, Reference, at_first, takes_wish, reference_after}
use Rattle.history.specs.Claim.{history}
use Rattle.history.specs.Notices.{one_of, closes, cancels, closed_in, cancelled_in}
use Rattle.history.specs.LastFrame.{LastFrame, no_frame, frame_after, last_frame}
use Rattle.history.specs.PollRule.{Reported, closes_sent, NoneCame, own_controller, own_entry, polled, PollRule, FirstPollRule}
use Rattle.laws.proofs.Tests.{left, right, clash, cond_both, decide, neither, not_true}
use Rattle.laws.proofs.Repeat.{replicate_default}
use Rattle.laws.proofs.Validity.{Valid, core_facts, state_core}
use Rattle.laws.proofs.Sweeps.{boxes_below}
use Rattle.laws.proofs.StaysValid.{initial_valid}
use Rattle.history.proofs.Judged.{judgement, performed_cases}
use Rattle.history.proofs.Notices.{unclosed_one, unclosed}
use Rattle.history.proofs.Modes.{performed_follows, reference_list}
use Rattle.history.proofs.Objects.{Matches, Follows, follows_on, follows_first, unused_empty, stopped_free}
use Rattle.history.proofs.LastFrame.{Owned, owned_list}
use Rattle.history.proofs.Cancellation.{performed_uncancelled}
use Rattle.history.proofs.Quiet.{performed_quiet}

-- a broken account stays broken
stays_broken : (h : ℕ) (ns : List Notification) → after_notifications h broken ns ≡ broken
unfolding after_notifications
stays_broken h [] = refl
stays_broken h (n ∷ ns) = ap (λ (x : Account). after_notifications h x ns) (one n) ∙ stays_broken h ns
  where
    one : (m : Notification) → after_notification h broken m ≡ broken
    one (tx_confirmation i handle) = cond_both (λ (x : Account). x ≡ broken) (eqb i h) broken broken (λ t. refl) (λ t. refl)
    one (tx_cancellation i handle) = cond_both (λ (x : Account). x ≡ broken) (eqb i h) broken broken (λ t. refl) (λ t. refl)
    one (rx_indication i identifier len) = refl
    one (mode_indication c m) = refl
    one (bus_off_indication c) = refl
    one (development_error service error) = refl
    one (data_lost i) = refl
    one (error_passive_indication c tx rx) = refl

-- a broken account agrees with nothing
not_broken : (m : Mailbox) (bytes : List ℕ) (a : Account) → Matches m bytes a → a ≡ broken → ⊥
not_broken m bytes a p e = subst (λ (x : Account). Matches m bytes x) e p

-- Records that leave no write open, of one that was sent, and none of which cancels it: its confirmation is among them.
module _ (h k : ℕ) (b : List ℕ) (m : Mailbox) (bytes : List ℕ) (free : m.tx_pending ≡ false) where
  -- the records' account, which agrees with a free mailbox
  abbrev Closed : Account → List Notification → Type 0
  Closed a ns = Matches m bytes (after_notifications h a ns)

  -- one record, and what holds of those after it
  first_confirmed : (n : Notification) (ns : List Notification) → cancels h n ≡ false → (Closed (held k b true) ns → Reported (tx_confirmation h k) ns) → Closed (held k b true) (n ∷ ns)
      → Reported (tx_confirmation h k) (n ∷ ns)
  unfolding after_notifications
  first_confirmed n ns = go n
    where
      later : (x : Notification) → closes h x ≡ false → (Closed (held k b true) ns → Reported (tx_confirmation h k) ns) → Closed (held k b true) (x ∷ ns) → Reported (tx_confirmation h k) (x ∷ ns)
      later x other rest p = inr (rest (subst (λ (y : Account). Closed y ns) (unclosed_one h x (held k b true) other) p))

      -- a confirmation of this object is the write's own, or the account would break
      own : (i handle : ℕ) → eqb i h ≡ true → Closed (cond (eqb handle k) closed broken) ns → Reported (tx_confirmation h k) (tx_confirmation i handle ∷ ns)
      own i handle e p = ⊎_elim
          (λ (same : eqb handle k ≡ true). inl (rw (eqb-true i h e, eqb-true handle k same)))
          (λ (differs : eqb handle k ≡ false). absurd (not_broken m bytes (after_notifications h broken ns) (rw differs at p) (stays_broken h ns)))
          (decide (eqb handle k))

      go : (x : Notification) → cancels h x ≡ false → (Closed (held k b true) ns → Reported (tx_confirmation h k) ns) → Closed (held k b true) (x ∷ ns) → Reported (tx_confirmation h k) (x ∷ ns)
      go (tx_confirmation i handle) c rest p =
          ⊎_elim (λ (e : eqb i h ≡ true). own i handle e (rw e at p)) (λ (e : eqb i h ≡ false). later (tx_confirmation i handle) e rest p) (decide (eqb i h))
      go (tx_cancellation i handle) c rest p = later (tx_cancellation i handle) c rest p
      go (rx_indication i identifier len) c rest p = later (rx_indication i identifier len) refl rest p
      go (mode_indication i x) c rest p = later (mode_indication i x) refl rest p
      go (bus_off_indication i) c rest p = later (bus_off_indication i) refl rest p
      go (development_error service error) c rest p = later (development_error service error) refl rest p
      go (data_lost i) c rest p = later (data_lost i) refl rest p
      go (error_passive_indication i tx rx) c rest p = later (error_passive_indication i tx rx) refl rest p

  confirmed : (ns : List Notification) → cancelled_in h ns ≡ false → Closed (held k b true) ns → Reported (tx_confirmation h k) ns
  unfolding one_of after_notifications
  confirmed [] none p = clash p.0 free
  confirmed (n ∷ ns) none p =
      let spared = neither (cancels h n) (cancelled_in h ns) none in first_confirmed n ns spared.0 (confirmed ns spared.1) p

module _ (L : Limits) (F : Format) (h : ℕ) where
  -- a write that is open and sent stays so, or the account breaks
  own_of_held : (cfg : Configuration F) (k : ℕ) (b : List ℕ) (x : AtObject F) → after_own L F h cfg (held k b true) x ≡ broken
  own_of_held cfg k b (written handle frame) = refl
  own_of_held cfg k b completed = refl

  effect_of_held : (cfg : Configuration F) (k : ℕ) (b : List ℕ) (e : Effect F) → (after_effect L F h cfg (held k b true) e ≡ held k b true) ⊎ (after_effect L F h cfg (held k b true) e ≡ broken)
  effect_of_held cfg k b (at_object i x) = go (eqb i h)
    where
      go : (t : Bool) → (cond t (after_own L F h cfg (held k b true) x) (held k b true) ≡ held k b true) ⊎ (cond t (after_own L F h cfg (held k b true) x) (held k b true) ≡ broken)
      go true = inr (own_of_held cfg k b x)
      go false = inl refl
  effect_of_held cfg k b nothing = inl refl
  effect_of_held cfg k b (configuring x) = inl refl
  effect_of_held cfg k b (at_controller c x) = inl refl
  effect_of_held cfg k b (polling x) = inl refl

  compared_held : (ram : List ℕ) (k : ℕ) (b : List ℕ) → (compared L F h ram (held k b true) ≡ held k b true) ⊎ (compared L F h ram (held k b true) ≡ broken)
  compared_held ram k b = go (same_bytes (object_in L.object_size ram h) b)
    where
      go : (t : Bool) → (cond t (held k b true) broken ≡ held k b true) ⊎ (cond t (held k b true) broken ≡ broken)
      go true = inl refl
      go false = inr refl

  module _ (e : Effect F) (o : Outcome (State F)) (unchanged : closed_in h o.notifications ≡ false) where
    -- a sent write stays held
    held_stays : (cfg : Configuration F) (k : ℕ) (b : List ℕ) → Matches (mailbox_at o.state.core.mailboxes h) (object_in L.object_size o.ram h) (account_after L F h cfg (held k b true) e o)
        → account_after L F h cfg (held k b true) e o ≡ held k b true
    held_stays cfg k b p = go (effect_of_held cfg k b e) (compared_held o.ram k b)
      where
        flat : account_after L F h cfg (held k b true) e o ≡ compared L F h o.ram (after_effect L F h cfg (held k b true) e)
        flat = unclosed h o.notifications (compared L F h o.ram (after_effect L F h cfg (held k b true) e)) unchanged

        breaks : account_after L F h cfg (held k b true) e o ≡ broken → account_after L F h cfg (held k b true) e o ≡ held k b true
        breaks wrong = absurd (not_broken (mailbox_at o.state.core.mailboxes h) (object_in L.object_size o.ram h) (account_after L F h cfg (held k b true) e o) p wrong)

        go : (after_effect L F h cfg (held k b true) e ≡ held k b true) ⊎ (after_effect L F h cfg (held k b true) e ≡ broken)
            → (compared L F h o.ram (held k b true) ≡ held k b true) ⊎ (compared L F h o.ram (held k b true) ≡ broken)
            → account_after L F h cfg (held k b true) e o ≡ held k b true
        go (inl u) (inl f) = flat ∙ ap (λ (x : Account). compared L F h o.ram x) u ∙ f
        go (inl u) (inr f) = breaks (flat ∙ ap (λ (x : Account). compared L F h o.ram x) u ∙ f)
        go (inr u) f = breaks (flat ∙ ap (λ (x : Account). compared L F h o.ram x) u)

  -- an accepted sent event leaves a write held and sent
  pub record Held (a : Account) : Type 0 where
    pub handle : ℕ
    pub bytes : List ℕ
    pub is : a ≡ held handle bytes true

  sent_holds : (cfg : Configuration F) (a : Account) (o : Outcome (State F)) → closed_in h o.notifications ≡ false
      → Matches (mailbox_at o.state.core.mailboxes h) (object_in L.object_size o.ram h) (account_after L F h cfg a (at_object h completed) o) → Held (account_after L F h cfg a (at_object h completed) o)
  sent_holds cfg a o unchanged p = go a (flat ∙ ap (λ (t : Bool). compared L F h o.ram (cond t (after_sent a) a)) (eq-eqb h h refl)) p
    where
      flat : account_after L F h cfg a (at_object h completed) o ≡ compared L F h o.ram (cond (eqb h h) (after_sent a) a)
      flat = unclosed h o.notifications (compared L F h o.ram (cond (eqb h h) (after_sent a) a)) unchanged

      fails : account_after L F h cfg a (at_object h completed) o ≡ broken → Matches (mailbox_at o.state.core.mailboxes h) (object_in L.object_size o.ram h) (account_after L F h cfg a (at_object h completed) o) → Held (account_after L F h cfg a (at_object h completed) o)
      fails e q = absurd (not_broken (mailbox_at o.state.core.mailboxes h) (object_in L.object_size o.ram h) (account_after L F h cfg a (at_object h completed) o) q e)

      go : (x : Account) → account_after L F h cfg a (at_object h completed) o ≡ compared L F h o.ram (after_sent x)
          → Matches (mailbox_at o.state.core.mailboxes h) (object_in L.object_size o.ram h) (account_after L F h cfg a (at_object h completed) o) → Held (account_after L F h cfg a (at_object h completed) o)
      go closed e q = fails e q
      go broken e q = fails e q
      go (held k b true) e q = fails e q
      go (held k b false) e q =
          ⊎_elim (λ (f : compared L F h o.ram (held k b true) ≡ held k b true). record { handle = k; bytes = b; is = e ∙ f }) (λ (f : compared L F h o.ram (held k b true) ≡ broken). fails (e ∙ f) q) (compared_held o.ram k b)

  follows_list : Lawful L F → (calls : List (Call F)) (s : State F) (ram : List ℕ) (cfg : Configuration F) (a : Account) → Follows L F h s ram cfg a
      → Follows L F h (left_by L F calls s ram).state (left_by L F calls s ram).ram (force_by L F cfg (trace L F calls s ram)) (account L F h cfg a (trace L F calls s ram))
  unfolding left_by trace account force_by
  follows_list lawful [] s ram cfg a f = f
  follows_list lawful (call ∷ calls) s ram cfg a f = follows_list lawful calls (performed L F call s ram).state (performed L F call s ram).ram _ _ (follows_on L F h lawful call s ram cfg a f)

  account_append : (xs ys : List (Call F)) (s : State F) (ram : List ℕ) (cfg : Configuration F) (a : Account)
      → account L F h cfg a (trace L F (xs ++ ys) s ram) ≡ account L F h (force_by L F cfg (trace L F xs s ram)) (account L F h cfg a (trace L F xs s ram)) (trace L F ys (left_by L F xs s ram).state (left_by L F xs s ram).ram)
  unfolding left_by trace account force_by
  account_append [] ys s ram cfg a = refl
  account_append (x ∷ xs) ys s ram cfg a = account_append xs ys (performed L F x s ram).state (performed L F x s ram).ram _ _

  -- a call that leaves a frame pending leaves the configuration
  abbrev KeepsForce : Configuration F → Effect F → Outcome (State F) → Type 0
  KeepsForce cfg e o = (mailbox_at o.state.core.mailboxes h).tx_pending ≡ true → in_force L F cfg e ≡ cfg

  done_keeps_force : (call : Call F) (s : State F) (ram : List ℕ) (cfg : Configuration F) → KeepsForce cfg (accepted_effect F call (judgement L F call s ram).done.answer) (judgement L F call s ram).done
  done_keeps_force (Init sheet bytes) s ram cfg pending = clash pending (ap (λ (m : Mailbox). m.tx_pending) (replicate_default L.objects h empty_mailbox))
  done_keeps_force (DeInit sheet) s ram cfg pending = clash pending (ap (λ (m : Mailbox). m.tx_pending) (replicate_default L.objects h empty_mailbox))
  done_keeps_force (SetControllerMode sheet c asked) s ram cfg pending = refl
  done_keeps_force (AskController q sheet c) s ram cfg pending = refl
  done_keeps_force (Write sheet i handle fits frame) s ram cfg pending = refl
  done_keeps_force (MainFunctionWrite sheet) s ram cfg pending = refl
  done_keeps_force (MainFunctionRead sheet) s ram cfg pending = refl
  done_keeps_force (MainFunctionMode sheet) s ram cfg pending = refl
  done_keeps_force (MainFunctionBusOff sheet) s ram cfg pending = refl
  done_keeps_force (TxComplete i) s ram cfg pending = refl
  done_keeps_force (BusOffDetected c) s ram cfg pending = refl
  done_keeps_force (ErrorsCounted sheet c tx rx) s ram cfg pending = refl
  done_keeps_force (FrameArrived sheet c frame) s ram cfg pending = refl

  same_force : (call : Call F) (s : State F) (ram : List ℕ) (cfg : Configuration F) → KeepsForce cfg (effect F call (performed L F call s ram)) (performed L F call s ram)
  same_force call s ram cfg = performed_cases L F (KeepsForce cfg) call s ram (λ refused pending. refl) (λ r. done_keeps_force call s ram cfg)

  -- a sent write that is still held, in state s; c is the object's controller
  record StaysHeld (s : State F) (ram : List ℕ) (cfg : Configuration F) (a : Account) (k : ℕ) (b : List ℕ) (c : ℕ) : Type 0 where
    still_held : a ≡ held k b true
    follows : Follows L F h s ram cfg (held k b true)
    same_controller : (owner_at s.core.owners h).controller ≡ c

  -- calls that are none of the three keep it held; r is the entry of its controller in the reference modes
  held_list : Lawful L F → (calls : List (Call F)) (s : State F) (ram : List ℕ) (cfg : Configuration F) (k : ℕ) (b : List ℕ) (c : ℕ) (r : Reference)
      → Follows L F h s ram cfg (held k b true) → (owner_at cfg.owners h).controller ≡ c → r ≡ entry (controller_at s.core.controllers c) → NoneCame L F c r (trace L F calls s ram)
      → StaysHeld (left_by L F calls s ram).state (left_by L F calls s ram).ram (force_by L F cfg (trace L F calls s ram)) (account L F h cfg (held k b true) (trace L F calls s ram)) k b c
  unfolding left_by trace account force_by
  held_list lawful [] s ram cfg k b c r f own e none_came =
      record { still_held = refl; follows = f; same_controller = ap (λ (x : Configuration F). (owner_at x.owners h).controller) (sym f.force) ∙ own }
  held_list lawful (call ∷ calls) s ram cfg k b c r f own e none_came =
      let o = performed L F call s ram in
      let next = follows_on L F h lawful call s ram cfg (held k b true) f in
      let here = subst (λ (x : Reference). NoneCame L F c x (trace L F (call ∷ calls) s ram)) e none_came in
      let quiet = performed_quiet L F h s ram c (ap (λ (x : Configuration F). (owner_at x.owners h).controller) (sym f.force) ∙ own) call here.0 in
      let same = held_stays (effect F call o) o quiet cfg k b next.matches in
      let next_held : Follows L F h o.state o.ram (in_force L F cfg (effect F call o)) (held k b true) = subst (λ (x : Account). Follows L F h o.state o.ram (in_force L F cfg (effect F call o)) x) same next in
      let still = ap (λ (x : Configuration F). (owner_at x.owners h).controller) (same_force call s ram cfg next_held.matches.0) ∙ own in
      let rest = held_list lawful calls o.state o.ram (in_force L F cfg (effect F call o)) k b c (reference_after L F c (entry (controller_at s.core.controllers c)) (effect F call o))
      next_held still (performed_follows L F c call s ram f.sound) here.1 in
      record {
        still_held = ap (λ (x : Account). account L F h (in_force L F cfg (effect F call o)) x (trace L F calls o.state o.ram)) same ∙ rest.still_held;
        follows = rest.follows;
        same_controller = rest.same_controller;
      }

  -- a poll that closes sent objects keeps accounts and last frames
  closing_keeps : (r : Reference) (e : Effect F) → closes_sent L F r e ≡ true → (cfg : Configuration F) (a : Account) (x : LastFrame) → (after_effect L F h cfg a e ≡ a) × (frame_after F h x e ≡ x)
  closing_keeps r (polling q) t cfg a x = (refl, refl)
  closing_keeps r nothing t cfg a x = clash t refl
  closing_keeps r (configuring y) t cfg a x = clash t refl
  closing_keeps r (at_object i y) t cfg a x = clash t refl
  closing_keeps r (at_controller c y) t cfg a x = clash t refl

  -- A poll that closes sent objects of controller c, the object's own, leaves the object free: a write poll frees it, and once its
  -- controller has left the bus nothing is pending.
  module _ (s : State F) (ram : List ℕ) (in_use : h < s.core.object_count) (done : (mailbox_at s.core.mailboxes h).tx_done ≡ true) where
    abbrev own : ℕ
    own = (owner_at s.core.owners h).controller

    abbrev own_entry_now : Reference
    own_entry_now = entry (controller_at s.core.controllers own)

    abbrev Frees : Effect F → Outcome (State F) → Type 0
    Frees e o = closes_sent L F own_entry_now e ≡ true → reference_after L F own own_entry_now e ≡ entry (controller_at o.state.core.controllers own)
        → Valid L o.state.core → (mailbox_at o.state.core.mailboxes h).tx_pending ≡ false

    -- the mode that the reference modes tell
    left_bus : (o : Outcome (State F)) (r : Reference) → r ≡ entry (controller_at o.state.core.controllers own) → (owner_at o.state.core.owners h).controller ≡ own → eqb r.mode STARTED ≡ false
        → Valid L o.state.core → (mailbox_at o.state.core.mailboxes h).tx_pending ≡ false
    left_bus o r e same stopped v =
        stopped_free L o.state.core v h (rw same (subst (λ (x : Reference). eqb x.mode STARTED ≡ false) e stopped))

    done_frees : (call : Call F) → Frees (accepted_effect F call (judgement L F call s ram).done.answer) (judgement L F call s ram).done
    done_frees (Init sheet bytes) t e v = clash t refl
    done_frees (DeInit sheet) t e v = clash t refl
    done_frees (SetControllerMode sheet c asked) t e v = clash t refl
    done_frees (AskController q sheet c) t e v = clash t refl
    done_frees (Write sheet i handle fits frame) t e v = clash t refl
    done_frees (MainFunctionWrite sheet) t e v =
        ap (λ (m : Mailbox). m.tx_pending) (boxes_below (confirmation L.object_size ram) (boxes_of s.core) s.core.object_count h in_use) ∙ rw done
    done_frees (MainFunctionRead sheet) t e v = clash t refl
    done_frees (MainFunctionMode sheet) t e v =
        let r = own_entry_now in
        let leaves = eqb r.mode STARTED && not (eqb r.wish STARTED) in
        left_bus (judgement L F (MainFunctionMode sheet) s ram).done (record { mode = r.wish; wish = NO_REQUEST; mark = r.mark }) (rw (left (takes_wish r) leaves t) at e) refl
        (not_true (eqb r.wish STARTED) (right (eqb r.mode STARTED) (not (eqb r.wish STARTED)) (right (takes_wish r) leaves t))) v
    done_frees (MainFunctionBusOff sheet) t e v =
        left_bus (judgement L F (MainFunctionBusOff sheet) s ram).done (record { mode = STOPPED; wish = NO_REQUEST; mark = false }) (rw t at e) refl refl v
    done_frees (TxComplete i) t e v = clash t refl
    done_frees (BusOffDetected c) t e v = clash t refl
    done_frees (ErrorsCounted sheet c tx rx) t e v = clash t refl
    done_frees (FrameArrived sheet c frame) t e v = clash t refl

    performed_frees : (call : Call F) → Frees (effect F call (performed L F call s ram)) (performed L F call s ram)
    performed_frees call = performed_cases L F Frees call s ram (λ refused t e v. clash t refl) (λ r. done_frees call)

  -- a poll that closes sent objects reports an object whose write is held and sent
  poll_reports : Lawful L F → (call : Call F) (s : State F) (ram : List ℕ) (cfg : Configuration F) (k : ℕ) (b : List ℕ) → Follows L F h s ram cfg (held k b true)
      → closes_sent L F (entry (controller_at s.core.controllers (owner_at s.core.owners h).controller)) (effect F call (performed L F call s ram)) ≡ true
      → Reported (tx_confirmation h k) (performed L F call s ram).notifications
  poll_reports lawful call s ram cfg k b f closes =
      ⊎_elim
      (λ (same : compared L F h o.ram (held k b true) ≡ held k b true). confirmed h k b m (object_in L.object_size o.ram h) free o.notifications uncancelled (rw same at agrees))
      (λ (differs : compared L F h o.ram (held k b true) ≡ broken). absurd (not_broken m (object_in L.object_size o.ram h) _ (rw differs at agrees) (stays_broken h o.notifications)))
      (compared_held o.ram k b)
    where
      o : Outcome (State F)
      o = performed L F call s ram

      m : Mailbox
      m = mailbox_at o.state.core.mailboxes h

      c : ℕ
      c = (owner_at s.core.owners h).controller

      x : LastFrame
      x = record { handle = k; sent = true }

      next : Follows L F h o.state o.ram (in_force L F cfg (effect F call o)) (account_after L F h cfg (held k b true) (effect F call o) o)
      next = follows_on L F h lawful call s ram cfg (held k b true) f

      keeps : (after_effect L F h cfg (held k b true) (effect F call o) ≡ held k b true) × (frame_after F h x (effect F call o) ≡ x)
      keeps = closing_keeps (entry (controller_at s.core.controllers c)) (effect F call o) closes cfg (held k b true) x

      agrees : Matches m (object_in L.object_size o.ram h) (after_notifications h (compared L F h o.ram (held k b true)) o.notifications)
      agrees = subst (λ (y : Account). Matches m (object_in L.object_size o.ram h) (after_notifications h (compared L F h o.ram y) o.notifications)) keeps.0 next.matches

      uncancelled : cancelled_in h o.notifications ≡ false
      uncancelled = performed_uncancelled L F h s ram x (λ sent pending. f.matches.1) call (ap (λ (y : LastFrame). y.sent) keeps.1)

      in_use : h < s.core.object_count
      in_use = go (dec_lt h s.core.object_count)
        where
          go : Dec (h < s.core.object_count) → h < s.core.object_count
          go (yes l) = l
          go (no l) = clash f.matches.0 (ap (λ (y : Mailbox). y.tx_pending) (unused_empty L s.core (core_facts L s.core (state_core L F s f.sound)) h (omega arith)))

      free : m.tx_pending ≡ false
      free = performed_frees s ram in_use f.matches.1 call closes (performed_follows L F c call s ram f.sound) (core_facts L o.state.core (state_core L F o.state next.sound))

  -- from the state in which the frame is sent: the write stays open until the poll, which reports it
  pub record ReportedAt (cfg : Configuration F) (a : Account) (s : State F) (ram : List ℕ) (between : List (Call F)) (poll : Call F) : Type 0 where
    pub handle : ℕ
    pub bytes : List ℕ
    pub is_held : account L F h cfg a (trace L F (TxComplete h ∷ between) s ram) ≡ held handle bytes true
    pub reported :
        Reported (tx_confirmation h handle) (performed L F poll (left_by L F (TxComplete h ∷ between) s ram).state (left_by L F (TxComplete h ∷ between) s ram).ram).notifications

  sent_reported : Lawful L F → (s : State F) (ram : List ℕ) (cfg : Configuration F) (a : Account) (between : List (Call F)) (poll : Call F) → Follows L F h s ram cfg a
      → is_accepted (performed L F (TxComplete h) s ram) ≡ true
      → NoneCame L F (owner_at cfg.owners h).controller (entry (controller_at s.core.controllers (owner_at cfg.owners h).controller)) (trace L F (TxComplete h ∷ between) s ram)
      → closes_sent L F (entry (controller_at (left_by L F (TxComplete h ∷ between) s ram).state.core.controllers (owner_at cfg.owners h).controller))
      (effect F poll (performed L F poll (left_by L F (TxComplete h ∷ between) s ram).state (left_by L F (TxComplete h ∷ between) s ram).ram)) ≡ true
      → ReportedAt cfg a s ram between poll
  unfolding left_by trace account
  sent_reported lawful s ram cfg a between poll start sent none_came closes =
      let c = (owner_at cfg.owners h).controller in
      let o = performed L F (TxComplete h) s ram in
      let next = follows_on L F h lawful (TxComplete h) s ram cfg a start in
      let quiet = performed_quiet L F h s ram c (ap (λ (x : Configuration F). (owner_at x.owners h).controller) (sym start.force)) (TxComplete h) none_came.0 in
      let is_sent : effect F (TxComplete h) o ≡ at_object h completed = rw sent in
      let at_once : Follows L F h o.state o.ram cfg (account_after L F h cfg a (at_object h completed) o) = subst (λ (e : Effect F). Follows L F h o.state o.ram (in_force L F cfg e) (account_after L F h cfg a e o)) is_sent next in
      let now = sent_holds cfg a o quiet at_once.matches in
      let f : Follows L F h o.state o.ram cfg (held now.handle now.bytes true) = subst (λ (x : Account). Follows L F h o.state o.ram cfg x) now.is at_once in
      let stays = held_list lawful between o.state o.ram cfg now.handle now.bytes c (reference_after L F c (entry (controller_at s.core.controllers c)) (effect F (TxComplete h) o)) f refl
      (performed_follows L F c (TxComplete h) s ram start.sound) none_came.1 in
      let at_poll = left_by L F between o.state o.ram in
      record {
        handle = now.handle;
        bytes = now.bytes;
        is_held =
            ap (λ (e : Effect F). account L F h (in_force L F cfg e) (account_after L F h cfg a e o) (trace L F between o.state o.ram)) is_sent
            ∙ ap (λ (x : Account). account L F h cfg x (trace L F between o.state o.ram)) now.is ∙ stays.still_held;
        reported =
            poll_reports lawful poll at_poll.state at_poll.ram _ now.handle now.bytes stays.follows
            (subst (λ (i : ℕ). closes_sent L F (entry (controller_at at_poll.state.core.controllers i)) (effect F poll (performed L F poll at_poll.state at_poll.ram)) ≡ true) (sym stays.same_controller) closes);
      }

-- a sent event that returns 0, no poll that closes the object, and then the first one: it reports the object
pub first_poll_rule : (L : Limits) (F : Format) → Lawful L F → FirstPollRule L F
first_poll_rule L F lawful h before between ram poll given closes =
    let cfg = force_by L F (no_configuration L F) (trace L F before (initial_state L F) ram) in
    let a = account L F h (no_configuration L F) closed (trace L F before (initial_state L F) ram) in
    let s = (left_by L F before (initial_state L F) ram).state in
    let m = (left_by L F before (initial_state L F) ram).ram in
    let c = own_controller L F h before between ram in
    let start = follows_list L F h lawful before (initial_state L F) ram (no_configuration L F) closed (follows_first L F h lawful ram) in
    let entry-is = reference_list L F c lawful before (initial_state L F) ram at_first (initial_valid L F lawful) (ap entry (sym (replicate_default L.controllers c idle_controller))) in
    let none_came = subst (λ (x : Reference). NoneCame L F c x (trace L F (TxComplete h ∷ between) s m)) entry-is given.none_came in
    let poll_entry_is = reference_list L F c lawful (TxComplete h ∷ between) s m (own_entry L F h before between ram) start.sound entry-is in
    let result = sent_reported L F h lawful s m cfg a between poll start given.sent none_came
    (subst (λ (x : Reference). closes_sent L F x (effect F poll (polled L F h before between ram poll)) ≡ true) poll_entry_is closes) in
    let whole = account_append L F h before (TxComplete h ∷ between) (initial_state L F) ram (no_configuration L F) closed ∙ result.is_held in
    let last = last_frame F h no_frame (history L F (before ++ (TxComplete h ∷ between)) ram) in
    let own = subst (λ (x : Account). Owned L F h x last) whole (owned_list L F h (history L F (before ++ (TxComplete h ∷ between)) ram) (no_configuration L F) no_frame closed tt) in
    subst (λ (k : ℕ). Reported (tx_confirmation h k) (polled L F h before between ram poll).notifications) own.0 result.reported

-- the write poll is such a poll
pub poll_rule : (L : Limits) (F : Format) → Lawful L F → PollRule L F
poll_rule L F lawful h before between ram sheet given accepted = first_poll_rule L F lawful h before between ram (MainFunctionWrite sheet) given (rw accepted)
