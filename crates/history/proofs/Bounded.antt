-- No call writes more notifications than there are controllers and objects.
use Prim.Native.Nat.{ℕ, ◌≤◌, ◌<◌}
use mathlib.Core.Path.{◌≡◌}
use mathlib.Core.Bool.{true}
use mathlib.Core.List.{List, [], ◌∷◌}
use mathlib.Core.Option.{Option, none, some}
use native.Mathlib.Omega.{arith}
use lib.ListN.{length}
use Rattle.rules.specs.Limits.{Limits, notification_limit}
use Rattle.rules.specs.Format.{Format}
use Rattle.rules.specs.Notification.{Notification, development_error, error_passive_indication}
use Rattle.rules.specs.Errors.{Errors, capped}
use Rattle.rules.specs.Core.{Controller, controller_at, errors_at}
use Rattle.rules.specs.Reason.{is_development_error}
use Rattle.rules.specs.State.{State, valid}
use Rattle.rules.specs.Outcome.{Outcome}
use Rattle.rules.specs.Polls.{Visit, Turn, boxes_of}
use Rattle.rules.specs.Events.{enters_passive, passive_report}
use Rattle.history.specs.Call.{Call, Init, DeInit, SetControllerMode, AskController, Write, MainFunctionWrite, MainFunctionRead, MainFunctionMode, MainFunctionBusOff, TxComplete, BusOffDetected, ErrorsCounted, FrameArrived, performed}
use Rattle.history.specs.Demand1.{error_record, service_number}
use Rattle.laws.proofs.Tests.{cond_both}
use Rattle.laws.proofs.Validity.{core_facts, state_core}
use Rattle.laws.proofs.Changes.{controllers_within, objects_within}
use Rattle.laws.proofs.Bounds.{visited_bounded, turns_bounded}
use Rattle.history.proofs.Judged.{judgement, visits_done, turns_done, received_cases, performed_cases}

-- a refusal writes at most its error
one_error : (service : Option ℕ) (r : ℕ) → length (error_record service r) ≤ 1
one_error none r = omega arith
one_error (some service) r =
    cond_both (λ (ns : List Notification). length ns ≤ 1) (is_development_error r) (development_error service r ∷ []) [] (λ t. omega arith) (λ t. omega arith)

-- so does a controller that enters passive
one_passive : (c tx rx : ℕ) (k : Controller) (e : Errors) → length (passive_report c tx rx k e) ≤ 1
one_passive c tx rx k e =
    cond_both (λ (ns : List Notification). length ns ≤ 1) (enters_passive tx rx k e) (error_passive_indication c (capped tx) (capped rx) ∷ []) []
    (λ t. omega arith) (λ t. omega arith)

module _ (L : Limits) (F : Format) (some_limit : 0 < notification_limit L) where
  abbrev Bounded : Outcome (State F) → Type 0
  Bounded o = length o.notifications ≤ notification_limit L

  module _ (s : State F) (ram : List ℕ) (v : valid L F s ≡ true) where
    objects_fit : s.core.object_count ≤ L.objects
    objects_fit = objects_within L s.core (core_facts L s.core (state_core L F s v))

    controllers_fit : s.core.controller_count ≤ L.controllers
    controllers_fit = controllers_within L s.core (core_facts L s.core (state_core L F s v))

    visits_bounded : (visit : Visit) → Bounded (visits_done L F s ram visit)
    visits_bounded visit = omega (arith, visited_bounded visit s.core.object_count (boxes_of s.core), objects_fit)

    turns_fit : (t : Turn) → Bounded (turns_done L F s ram t)
    turns_fit t = omega (arith, turns_bounded L.object_size t s.core ram, objects_fit, controllers_fit)

    done_bounded : (call : Call F) → Bounded (judgement L F call s ram).done
    done_bounded (Init sheet bytes) = omega arith
    done_bounded (DeInit sheet) = omega arith
    done_bounded (SetControllerMode sheet c asked) = omega arith
    done_bounded (AskController q sheet c) = omega arith
    done_bounded (Write sheet h handle fits frame) = omega arith
    done_bounded (MainFunctionWrite sheet) = visits_bounded _
    done_bounded (MainFunctionRead sheet) = visits_bounded _
    done_bounded (MainFunctionMode sheet) = turns_fit _
    done_bounded (MainFunctionBusOff sheet) = turns_fit _
    done_bounded (TxComplete h) = omega arith
    done_bounded (BusOffDetected c) = omega arith
    done_bounded (ErrorsCounted sheet c tx rx) = omega (arith, one_passive c tx rx (controller_at s.core.controllers c) (errors_at s.core.errors c))
    done_bounded (FrameArrived sheet c frame) = received_cases L F s ram c frame Bounded (omega arith) (λ h. omega arith) (λ h e. omega arith)

    pub performed_bounded : (call : Call F) → Bounded (performed L F call s ram)
    performed_bounded call =
        performed_cases L F (λ e o. Bounded o) call s ram
        (λ refused. omega (arith, one_error (service_number F call) (judgement L F call s ram).reason))
        (λ r. done_bounded call)
