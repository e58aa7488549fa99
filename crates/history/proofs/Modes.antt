-- Every controller is what the reference modes say: its mode, its waiting request and its mark are the entry's.
use Prim.Native.Nat.{ℕ, ◌≤◌, ◌<◌}
use mathlib.Core.Path.{◌≡◌, refl, ap, sym, ◌∙◌}
use mathlib.Core.Bool.{true, false, not, cond, ◌&&◌}
use mathlib.Core.List.{List, [], ◌∷◌}
use native.Mathlib.Omega.{arith}
use native.Mathlib.Decide.{ℕ_discrete, dec_lt}
use lib.ListN.{length, set, get_or-eq_default}
use lib.Seq.{get_or-set_same, get_or-set_other}
use lib.Dec.{eqb, ltb}
use borrow.Author.Tests.{eqb-true, eq-eqb, ne_eqb, ltb-true, lt-ltb, le-ltb}
use Rattle.rules.specs.Limits.{Limits}
use Rattle.rules.specs.Format.{Format, Lawful}
use Rattle.rules.specs.Repeat.{list_below}
use Rattle.rules.specs.Mode.{UNINIT, NO_REQUEST, permitted}
use Rattle.rules.specs.Reason.{first_reason, reasons_named}
use Rattle.rules.specs.Errors.{above_bus_off}
use Rattle.rules.specs.Core.{Controller, Core, idle_controller, controller_at, controller_idle, in_use}
use Rattle.rules.specs.Configuration.{controllers_byte, configuration_of, accepted_bytes}
use Rattle.rules.specs.State.{State, valid}
use Rattle.rules.specs.Outcome.{Outcome, of_mode, of_error_state, of_rx_errors, of_tx_errors, told, full_gate, sheet_gate, state_gate}
use Rattle.rules.specs.Services.{set_controller_mode_checks, stopped_controller, with_request}
use Rattle.rules.specs.Polls.{Turn, turn_all, mode_change, going_off}
use Rattle.rules.specs.Events.{on_bus_checks, marked_bus_off, errors_counted_reason, counted_controller}
use Rattle.rules.specs.Calls.{init_checks, configured_state}
use Rattle.history.specs.Call.{Call, Init, DeInit, SetControllerMode, AskController, Write, MainFunctionWrite, MainFunctionRead, MainFunctionMode, MainFunctionBusOff, TxComplete, BusOffDetected, ErrorsCounted, FrameArrived, performed}
use Rattle.history.specs.Trace.{trace, left_by}
use Rattle.history.specs.Effect.{Effect, accepted_effect, effect}
use Rattle.history.specs.Reference.{Reference, takes_wish, entry, marked_if, reference_after, reference_by}
use Rattle.history.specs.Claim.{ModeKept, ModesKept, asks, is_mode_poll}
use Rattle.laws.proofs.Tests.{left, right, clash, cond_map, not_true, not_false, and_false, cond_same}
use Rattle.laws.proofs.Repeat.{length-list_below, get_or-list_below, replicate_default}
use Rattle.laws.proofs.Reasons.{then_second, check_passed}
use Rattle.laws.proofs.Acceptance.{counted_passed}
use Rattle.laws.proofs.Sweeps.{turns_beyond, turns_below}
use Rattle.laws.proofs.Validity.{Valid, core_facts, state_core}
use Rattle.laws.proofs.Changes.{controllers_within}
use Rattle.laws.proofs.StaysValid.{configured_valid, own_controller, waiting_permitted}
use Rattle.history.proofs.Judged.{judgement, received_cases, performed_cases}
use Rattle.history.proofs.Steps.{performed_valid}

-- an idle controller is the one at rest
idle_is : (k : Controller) → controller_idle k ≡ true → k ≡ idle_controller
idle_is k h =
    let m = eqb k.mode UNINIT in
    let r = eqb k.requested_mode NO_REQUEST in
    let mode_is = eqb-true k.mode UNINIT (left m r (left (m && r) (not k.bus_off) h)) in
    let request_is = eqb-true k.requested_mode NO_REQUEST (right m r (left (m && r) (not k.bus_off) h)) in
    let mark_is = not_true k.bus_off (right (m && r) (not k.bus_off) h) in
    λ i. record { mode = mode_is i; requested_mode = request_is i; bus_off = mark_is i }

-- accepted bytes name no more controllers than there are places
accepted_controllers : (L : Limits) (F : Format) (bytes : List ℕ) → accepted_bytes L F bytes ≡ true → controllers_byte bytes ≤ L.controllers
unfolding configuration_of
accepted_controllers L F bytes a =
    let s = configured_state L F (configuration_of L F bytes) in
    controllers_within L s.core (core_facts L s.core (state_core L F s (configured_valid L F bytes a)))

-- a controller that Init puts in place: below the count it is stopped, above it at rest
module _ (n : ℕ) where
  abbrev pub put : ℕ → Controller
  put k = cond (ltb k n) stopped_controller idle_controller

  put_entry : (places c : ℕ) → n ≤ places → cond (ltb c n) (entry stopped_controller) (entry idle_controller) ≡ entry (controller_at (list_below places put) c)
  put_entry places c within = go (dec_lt c places)
    where
      go : Dec (c < places) → cond (ltb c n) (entry stopped_controller) (entry idle_controller) ≡ entry (controller_at (list_below places put) c)
      go (yes l) = rw (get_or-list_below places put c idle_controller l) (sym (cond_map entry (ltb c n) stopped_controller idle_controller))
      go (no l) = rw (le-ltb c n (omega arith), get_or-eq_default (list_below places put) idle_controller {n = c} (rw (length-list_below places put) (omega arith)))

module _ (L : Limits) (c : ℕ) (core : Core) (v : Valid L core) where
  -- a controller that is not in use is at rest
  pub unused_idle : core.controller_count ≤ c → controller_at core.controllers c ≡ idle_controller
  unused_idle n = go (dec_lt c L.controllers)
    where
      go : Dec (c < L.controllers) → controller_at core.controllers c ≡ idle_controller
      go (yes l) = idle_is (controller_at core.controllers c) (rw (le-ltb c core.controller_count n) at (v.controllers c l))
      go (no l) = get_or-eq_default core.controllers idle_controller (rw v.controller_places (omega arith))

  -- before Init every controller is
  pub idle_before : core.initialised ≡ false → controller_at core.controllers c ≡ idle_controller
  idle_before off =
      let none_used = eqb-true core.controller_count 0 (left (eqb core.controller_count 0) (eqb core.object_count 0) (rw off at v.counts)) in
      unused_idle (omega arith)

  within : core.controller_count ≤ length core.controllers
  within = rw v.controller_places (controllers_within L core v)

  -- one controller in use is changed
  changed_entry : (k : ℕ) (change : Controller → Controller) → in_use core k ≡ true
      → cond (eqb k c) (entry (change (controller_at core.controllers c))) (entry (controller_at core.controllers c))
      ≡ entry (controller_at (set core.controllers k (change (controller_at core.controllers k))) c)
  changed_entry k change used = go (ℕ_discrete k c)
    where
      go : Dec (k ≡ c) → cond (eqb k c) (entry (change (controller_at core.controllers c))) (entry (controller_at core.controllers c)) ≡ entry (controller_at (set core.controllers k (change (controller_at core.controllers k))) c)
      go (yes e) =
          let inside : c < length core.controllers = omega (arith, within, ltb-true k core.controller_count used) in
          rw (e, eq-eqb c c refl, get_or-set_same core.controllers c (change (controller_at core.controllers c)) idle_controller inside)
      go (no d) = rw (ne_eqb k c d, get_or-set_other core.controllers k c (change (controller_at core.controllers k)) idle_controller (λ e. d (sym e)))

  -- one whose errors are counted is marked, or stays as it was
  counted_entry : (k tx : ℕ) → k < core.controller_count
      → cond (eqb k c) (marked_if (above_bus_off tx) (entry (controller_at core.controllers c))) (entry (controller_at core.controllers c))
      ≡ entry (controller_at (set core.controllers k (counted_controller tx (controller_at core.controllers k))) c)
  counted_entry k tx used =
      ap (λ (r : Reference). cond (eqb k c) r (entry (controller_at core.controllers c))) (sym (cond_map entry (above_bus_off tx) (marked_bus_off (controller_at core.controllers c)) (controller_at core.controllers c)))
      ∙ changed_entry k (counted_controller tx) (lt-ltb k core.controller_count used)

  -- a poll over the controllers gives controller c its turn, if it is due
  turned_entry : (size : ℕ) (t : Turn) (ram : List ℕ) → t.due idle_controller ≡ false
      → cond (t.due (controller_at core.controllers c)) (entry (t.entered (controller_at core.controllers c))) (entry (controller_at core.controllers c))
      ≡ entry (controller_at (turn_all size t core ram).controllers c)
  turned_entry size t ram idle_waits = go (dec_lt c core.controller_count)
    where
      go : Dec (c < core.controller_count)
          → cond (t.due (controller_at core.controllers c)) (entry (t.entered (controller_at core.controllers c))) (entry (controller_at core.controllers c))
          ≡ entry (controller_at (turn_all size t core ram).controllers c)
      go (yes l) = rw (turns_below size t core ram within c l) (sym (cond_map entry (t.due (controller_at core.controllers c)) _ _))
      go (no l) = rw (turns_beyond size t core ram c (omega arith), unused_idle (omega arith), idle_waits)

  -- a wish that a mode poll takes is permitted
  wish_is_permitted : takes_wish (entry (controller_at core.controllers c)) ≡ true
      → permitted (controller_at core.controllers c).mode (controller_at core.controllers c).requested_mode ≡ true
  wish_is_permitted t = go (dec_lt c core.controller_count)
    where
      go : Dec (c < core.controller_count) → permitted (controller_at core.controllers c).mode (controller_at core.controllers c).requested_mode ≡ true
      go (yes l) = waiting_permitted (controller_at core.controllers c) (own_controller L core v c l) t
      go (no l) = clash t (ap (λ (k : Controller). takes_wish (entry k)) (unused_idle (omega arith)))

module _ (L : Limits) (F : Format) (c : ℕ) where
  abbrev control : State F → Controller
  control s = controller_at s.core.controllers c

  -- the reference after the call is the entry of the controller after it
  abbrev Follows : State F → Effect F → Outcome (State F) → Type 0
  Follows s e o = reference_after L F c (entry (control s)) e ≡ entry (control o.state)

  pub done_follows : (call : Call F) (s : State F) (ram : List ℕ) → Valid L s.core → (judgement L F call s ram).reason ≡ 0
      → Follows s (accepted_effect F call (judgement L F call s ram).done.answer) (judgement L F call s ram).done
  unfolding reasons_named configuration_of
  done_follows (Init sheet bytes) s ram v r =
      let checks = init_checks L F s bytes in
      let own = then_second (full_gate L F s (length sheet) ram) (first_reason checks) r in
      rw (idle_before L c s.core v (check_passed 0 checks refl own))
      (put_entry (controllers_byte bytes) L.controllers c (accepted_controllers L F bytes (not_false (accepted_bytes L F bytes) (check_passed 1 checks refl own))))
  done_follows (DeInit sheet) s ram v r = ap entry (sym (replicate_default L.controllers c idle_controller))
  done_follows (SetControllerMode sheet k asked) s ram v r =
      let checks = set_controller_mode_checks s.core k asked in
      changed_entry L c s.core v k (λ x. with_request asked x) (not_false (in_use s.core k) (check_passed 1 checks refl (then_second (sheet_gate L F s (length sheet)) (first_reason checks) r)))
  done_follows (AskController q sheet k) s ram v r = cond_same (eqb k c) (entry (control s))
  done_follows (Write sheet h handle fits frame) s ram v r = refl
  done_follows (MainFunctionWrite sheet) s ram v r = refl
  done_follows (MainFunctionRead sheet) s ram v r = refl
  done_follows (MainFunctionMode sheet) s ram v r = turned_entry L c s.core v L.object_size mode_change ram refl
  done_follows (MainFunctionBusOff sheet) s ram v r = turned_entry L c s.core v L.object_size going_off ram refl
  done_follows (TxComplete h) s ram v r = refl
  done_follows (BusOffDetected k) s ram v r =
      let checks = on_bus_checks s.core k in
      changed_entry L c s.core v k marked_bus_off (not_false (in_use s.core k) (check_passed 1 checks refl (then_second (state_gate L F s) (first_reason checks) r)))
  done_follows (ErrorsCounted sheet k tx rx) s ram v r =
      counted_entry L c s.core v k tx (counted_passed s.core k tx rx (then_second (sheet_gate L F s (length sheet)) (errors_counted_reason s.core k tx rx) r)).used
  done_follows (FrameArrived sheet k frame) s ram v r = received_cases L F s ram k frame (λ (o : Outcome (State F)). entry (control s) ≡ entry (control o.state)) refl (λ h. refl) (λ h e. refl)

  pub performed_follows : (call : Call F) (s : State F) (ram : List ℕ) → valid L F s ≡ true → Follows s (effect F call (performed L F call s ram)) (performed L F call s ram)
  performed_follows call s ram v =
      performed_cases L F (Follows s) call s ram (λ refused. refl) (λ r. done_follows call s ram (core_facts L s.core (state_core L F s v)) r)

  -- the question for a mode is answered by it; any other call is no question
  abbrev Answered : Effect F → Outcome (State F) → Type 0
  Answered e o = asks L F of_mode c e ≡ true → o.answer ≡ told of_mode (control o.state).mode

  done_answered : (call : Call F) (s : State F) (ram : List ℕ) → Answered (accepted_effect F call (judgement L F call s ram).done.answer) (judgement L F call s ram).done
  done_answered (AskController of_mode sheet k) s ram t = ap (λ (i : ℕ). told of_mode (controller_at s.core.controllers i).mode) (eqb-true k c (left (eqb k c) true t))
  done_answered (AskController of_error_state sheet k) s ram t = clash t (and_false (eqb k c))
  done_answered (AskController of_rx_errors sheet k) s ram t = clash t (and_false (eqb k c))
  done_answered (AskController of_tx_errors sheet k) s ram t = clash t (and_false (eqb k c))
  done_answered (Init sheet bytes) s ram t = clash t refl
  done_answered (DeInit sheet) s ram t = clash t refl
  done_answered (SetControllerMode sheet k asked) s ram t = clash t (and_false (eqb k c))
  done_answered (Write sheet h handle fits frame) s ram t = clash t refl
  done_answered (MainFunctionWrite sheet) s ram t = clash t refl
  done_answered (MainFunctionRead sheet) s ram t = clash t refl
  done_answered (MainFunctionMode sheet) s ram t = clash t refl
  done_answered (MainFunctionBusOff sheet) s ram t = clash t refl
  done_answered (TxComplete h) s ram t = clash t refl
  done_answered (BusOffDetected k) s ram t = clash t (and_false (eqb k c))
  done_answered (ErrorsCounted sheet k tx rx) s ram t = clash t (and_false (eqb k c))
  done_answered (FrameArrived sheet k frame) s ram t = clash t refl

  -- one call
  mode_kept : (call : Call F) (s : State F) (ram : List ℕ) → valid L F s ≡ true
      → ModeKept L F c (entry (control s)) (reference_after L F c (entry (control s)) (effect F call (performed L F call s ram))) (effect F call (performed L F call s ram)) (performed L F call s ram)
  mode_kept call s ram v =
      let follows = performed_follows call s ram v in
      record {
        in_state = ap (λ (r : Reference). r.mode) (sym follows);
        answered = λ t. performed_cases L F Answered call s ram (λ refused q. clash q refl) (λ r. done_answered call s ram) t ∙ ap (λ (r : Reference). told of_mode r.mode) (sym follows);
        wish_permitted = λ t. wish_is_permitted L c s.core (core_facts L s.core (state_core L F s v)) (right (is_mode_poll L F (effect F call (performed L F call s ram))) (takes_wish (entry (control s))) t);
      }

  -- any list of calls
  pub modes_kept : Lawful L F → (calls : List (Call F)) (s : State F) (ram : List ℕ) (r : Reference) → valid L F s ≡ true → r ≡ entry (control s) → ModesKept L F c r (trace L F calls s ram)
  unfolding trace
  modes_kept lawful [] s ram r v e = tt
  modes_kept lawful (call ∷ calls) s ram r v e =
      rw e (
        mode_kept call s ram v,
        modes_kept lawful calls (performed L F call s ram).state (performed L F call s ram).ram (reference_after L F c (entry (control s)) (effect F call (performed L F call s ram)))
            (performed_valid L F lawful call s ram v) (performed_follows call s ram v),
      )

  -- the entry after a list of calls is what the controller amounts to
  pub reference_list : Lawful L F → (calls : List (Call F)) (s : State F) (ram : List ℕ) (r : Reference) → valid L F s ≡ true → r ≡ entry (control s)
      → reference_by L F c r (trace L F calls s ram) ≡ entry (control (left_by L F calls s ram).state)
  unfolding trace left_by reference_by
  reference_list lawful [] s ram r v e = e
  reference_list lawful (call ∷ calls) s ram r v e =
      let o = performed L F call s ram in
      reference_list lawful calls o.state o.ram (reference_after L F c r (effect F call o)) (performed_valid L F lawful call s ram v)
      (ap (λ (x : Reference). reference_after L F c x (effect F call o)) e ∙ performed_follows call s ram v)
