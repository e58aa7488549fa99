-- How each call is judged: its reason decides between a refusal, which leaves everything as it was, and what the call does. So a
-- property of every call is proved once for the refusals, and then for what each call does.
use Prim.Native.Nat.{ℕ}
use mathlib.Core.Path.{◌≡◌, refl}
use mathlib.Core.Bool.{true, false}
use mathlib.Core.List.{List, [], ◌∷◌}
use mathlib.Core.Option.{Option, none, some}
use lib.ListN.{length, set}
use lib.Dec.{eqb}
use Rattle.rules.specs.Limits.{Limits}
use Rattle.rules.specs.Format.{Format}
use Rattle.rules.specs.Reason.{E_OK, first_reason, ◌then◌}
use Rattle.rules.specs.Notification.{Notification, data_lost}
use Rattle.rules.specs.Core.{Core, controller_at, errors_at, with_controllers, with_mailboxes, with_errors, free_member}
use Rattle.rules.specs.Configuration.{configuration_of}
use Rattle.rules.specs.State.{State, with_core, initial_state}
use Rattle.rules.specs.Outcome.{Outcome, Answer, no_answer, told, taken_by, unwanted, lost, rejected, accepted, judged, lifted, state_gate, sheet_gate, full_gate}
use Rattle.rules.specs.Services as services
use Rattle.rules.specs.Services.{deinit_checks, set_controller_mode_checks, ask_controller_checks, answer_to, mode_requested, write_reason, taken}
use Rattle.rules.specs.Polls as polls
use Rattle.rules.specs.Polls.{Visit, Turn, visit_all, turn_all, boxes_of, after_sweep, errors_all, confirmation, indication, mode_change, going_off}
use Rattle.rules.specs.Events as events
use Rattle.rules.specs.Events.{tx_complete_checks, on_bus_checks, sent_mailbox, marked_bus_off, errors_counted_reason, counted_controller, counted_errors, passive_report}
use Rattle.rules.specs.Calls.{init, deinit, set_controller_mode, ask_controller, write, main_function_write, main_function_read, main_function_mode, main_function_bus_off, tx_complete, bus_off_detected, errors_counted, frame_arrived, init_checks, configured_state, zero_ram, frame_reason, laid_down, best_object, stored, not_stored, received, arrival_reason}
use Rattle.history.specs.Call.{Call, Init, DeInit, SetControllerMode, AskController, Write, MainFunctionWrite, MainFunctionRead, MainFunctionMode, MainFunctionBusOff, TxComplete, BusOffDetected, ErrorsCounted, FrameArrived, performed}
use Rattle.history.specs.Effect.{Effect, nothing, accepted_effect, effect}
use Rattle.history.specs.Demand1.{error_record, service_number}
use Rattle.laws.proofs.Tests.{cond_map}
use Rattle.laws.proofs.Reasons.{judged_cases, rejected_code}

-- a call on the core is judged like one on the state: a refusal leaves the state, whose core it leaves
pub lifted_judged : {F : Format} (s : State F) (ram : List ℕ) (report : ℕ → List Notification) (answer : Answer) (r : ℕ) (accept : Outcome Core)
    → lifted s (judged r (rejected report answer s.core ram) accept) ≡ judged r (rejected report answer s ram) (lifted s accept)
unfolding judged
lifted_judged s ram report answer r accept = cond_map (λ (o : Outcome Core). lifted s o) (eqb r 0) accept (rejected report answer s.core ram r)

pub record Judgement (F : Format) : Type 0 where
  -- 0 accepts
  pub reason : ℕ
  -- what a refusal answers
  pub denial : Answer
  -- what the call leaves where it is accepted
  pub done : Outcome (State F)
  pub done_code : done.code ≡ E_OK

module _ (L : Limits) (F : Format) where
  -- what a call leaves that changes the core alone
  abbrev pub core_done : State F → List ℕ → Core → List Notification → Outcome (State F)
  core_done s ram core notes = accepted no_answer (with_core s core) ram notes

  -- a poll over the objects, and one over the controllers
  abbrev pub visits_done : State F → List ℕ → Visit → Outcome (State F)
  visits_done s ram v = let b = visit_all v s.core.object_count (boxes_of s.core) in core_done s ram (with_mailboxes s.core b.mailboxes) b.notifications

  abbrev pub turns_done : State F → List ℕ → Turn → Outcome (State F)
  turns_done s ram t = let w = turn_all L.object_size t s.core ram in let es = errors_all t s.core.controller_count s.core.controllers s.core.errors in core_done s ram (with_errors (after_sweep s.core w) es) w.boxes.notifications

  -- what becomes of a frame that arrives: no object fits, all that fit are full, or one takes it
  pub received_cases : (s : State F) (ram : List ℕ) (c : ℕ) (frame : F.Frame) (P : Outcome (State F) → Type 0)
      → P (accepted unwanted s ram []) → ((h : ℕ) → P (accepted lost s ram (data_lost h ∷ []))) → ((h : ℕ) → best_object L F s c frame false ≡ some h → P (stored L F s ram frame h))
      → P (received L F s ram c frame (best_object L F s c frame false))
  received_cases s ram c frame P none_fits all_full takes = go (best_object L F s c frame false) refl
    where
      missed : (o : Option ℕ) → P (not_stored L F s ram o)
      missed none = none_fits
      missed (some h) = all_full h

      go : (o : Option ℕ) → best_object L F s c frame false ≡ o → P (received L F s ram c frame o)
      go none e = missed (best_object L F s c frame true)
      go (some h) e = takes h e

  -- its refusal answers nothing
  abbrev pub judging : ℕ → (o : Outcome (State F)) → o.code ≡ E_OK → Judgement F
  judging r o ok = record { reason = r; denial = no_answer; done = o; done_code = ok }

  abbrev pub judgement : Call F → State F → List ℕ → Judgement F
  judgement (Init sheet bytes) s ram =
      judging (full_gate L F s (length sheet) ram then first_reason (init_checks L F s bytes)) (accepted no_answer (configured_state L F (configuration_of L F bytes)) (zero_ram L F) []) refl
  judgement (DeInit sheet) s ram =
      judging (full_gate L F s (length sheet) ram then first_reason (deinit_checks s.core)) (accepted no_answer (initial_state L F) (zero_ram L F) []) refl
  judgement (SetControllerMode sheet c asked) s ram =
      judging (sheet_gate L F s (length sheet) then first_reason (set_controller_mode_checks s.core c asked)) (core_done s ram (mode_requested s.core c asked) []) refl
  judgement (AskController q sheet c) s ram =
      record {
        reason = sheet_gate L F s (length sheet) then first_reason (ask_controller_checks s.core c);
        denial = told q 0;
        done = accepted (told q (answer_to q (controller_at s.core.controllers c) (errors_at s.core.errors c))) s ram [];
        done_code = refl;
      }
  judgement (Write sheet h handle fits frame) s ram =
      judging (full_gate L F s (length sheet) ram then write_reason s.core h (frame_reason L F s h frame))
      (accepted (taken_by (free_member s.core h)) (with_core s (taken s.core (free_member s.core h))) (laid_down L F s ram (free_member s.core h) handle frame) []) refl
  judgement (MainFunctionWrite sheet) s ram = judging (full_gate L F s (length sheet) ram) (visits_done s ram (confirmation L.object_size ram)) refl
  judgement (MainFunctionRead sheet) s ram = judging (full_gate L F s (length sheet) ram) (visits_done s ram (indication L.object_size L.length_size ram)) refl
  judgement (MainFunctionMode sheet) s ram = judging (full_gate L F s (length sheet) ram) (turns_done s ram mode_change) refl
  judgement (MainFunctionBusOff sheet) s ram = judging (full_gate L F s (length sheet) ram) (turns_done s ram going_off) refl
  judgement (TxComplete h) s ram =
      judging (state_gate L F s then first_reason (tx_complete_checks s.core h)) (core_done s ram (with_mailboxes s.core (set s.core.mailboxes h sent_mailbox)) []) refl
  judgement (BusOffDetected c) s ram =
      judging (state_gate L F s then first_reason (on_bus_checks s.core c))
      (core_done s ram (with_controllers s.core (set s.core.controllers c (marked_bus_off (controller_at s.core.controllers c)))) []) refl
  judgement (ErrorsCounted sheet c tx rx) s ram =
      let k = controller_at s.core.controllers c in
      let e = errors_at s.core.errors c in
      judging (sheet_gate L F s (length sheet) then errors_counted_reason s.core c tx rx)
      (core_done s ram (with_errors (with_controllers s.core (set s.core.controllers c (counted_controller tx k))) (set s.core.errors c (counted_errors tx rx e)))
      (passive_report c tx rx k e)) refl
  judgement (FrameArrived sheet c frame) s ram =
      judging (full_gate L F s (length sheet) ram then arrival_reason L F s c frame) (received L F s ram c frame (best_object L F s c frame false))
      (received_cases s ram c frame (λ (o : Outcome (State F)). o.code ≡ E_OK) refl (λ h. refl) (λ h e. refl))

  -- what a refused call leaves
  abbrev pub denied : Call F → State F → List ℕ → Outcome (State F)
  denied call s ram = rejected (error_record (service_number F call)) (judgement call s ram).denial s ram (judgement call s ram).reason

  performed_judged : (call : Call F) (s : State F) (ram : List ℕ)
      → performed L F call s ram ≡ judged (judgement call s ram).reason (rejected (error_record (service_number F call)) (judgement call s ram).denial s ram) (judgement call s ram).done
  unfolding performed init deinit set_controller_mode ask_controller write main_function_write main_function_read main_function_mode main_function_bus_off tx_complete bus_off_detected errors_counted frame_arrived services.set_controller_mode services.ask_controller polls.main_function_write polls.main_function_read polls.main_function_mode polls.main_function_bus_off events.tx_complete events.bus_off_detected events.errors_counted
  performed_judged (Init sheet bytes) s ram = refl
  performed_judged (DeInit sheet) s ram = refl
  performed_judged (SetControllerMode sheet c asked) s ram = lifted_judged s ram _ _ _ _
  performed_judged (AskController q sheet c) s ram = lifted_judged s ram _ _ _ _
  performed_judged (Write sheet h handle fits frame) s ram = refl
  performed_judged (MainFunctionWrite sheet) s ram = lifted_judged s ram _ _ _ _
  performed_judged (MainFunctionRead sheet) s ram = lifted_judged s ram _ _ _ _
  performed_judged (MainFunctionMode sheet) s ram = lifted_judged s ram _ _ _ _
  performed_judged (MainFunctionBusOff sheet) s ram = lifted_judged s ram _ _ _ _
  performed_judged (TxComplete h) s ram = lifted_judged s ram _ _ _ _
  performed_judged (BusOffDetected c) s ram = lifted_judged s ram _ _ _ _
  performed_judged (ErrorsCounted sheet c tx rx) s ram = lifted_judged s ram _ _ _ _
  performed_judged (FrameArrived sheet c frame) s ram = refl

  -- a property of every call, with its effect: of its refusal, which has none, and of what it leaves where it is accepted
  pub performed_cases : (P : Effect F → Outcome (State F) → Type 0) (call : Call F) (s : State F) (ram : List ℕ)
      → (eqb (judgement call s ram).reason 0 ≡ false → P nothing (denied call s ram))
      → ((judgement call s ram).reason ≡ 0 → P (accepted_effect F call (judgement call s ram).done.answer) (judgement call s ram).done)
      → P (effect F call (performed L F call s ram)) (performed L F call s ram)
  performed_cases P call s ram refuse accept =
      let j = judgement call s ram in
      rw (performed_judged call s ram)
      (judged_cases (λ (o : Outcome (State F)). P (effect F call o) o) j.reason (rejected (error_record (service_number F call)) j.denial s ram) j.done
      (λ e. rw (rejected_code j.reason e) (refuse e))
      (λ e. rw j.done_code (accept e)))
