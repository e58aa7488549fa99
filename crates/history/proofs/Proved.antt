-- Demand 3 and the whole entry of the reference modes, proved: for any limits above 0 and any lawful format.
use Prim.Native.Nat.{ℕ, ◌<◌}
use mathlib.Core.Path.{◌≡◌, ap, sym}
use mathlib.Core.Bool.{true}
use mathlib.Core.List.{List, [], ◌∷◌}
use native.Mathlib.Omega.{arith}
use Rattle.rules.specs.Limits.{Limits, notification_limit}
use Rattle.rules.specs.Format.{Format, Lawful}
use Rattle.rules.specs.Configuration.{no_configuration}
use Rattle.rules.specs.Core.{idle_controller}
use Rattle.rules.specs.State.{State, valid, initial_state}
use Rattle.history.specs.Call.{Call, performed}
use Rattle.history.specs.Trace.{trace}
use Rattle.history.specs.Account.{closed}
use Rattle.history.specs.Reference.{entry, at_first}
use Rattle.history.specs.Claim.{NotificationsBounded, HistoryRule, ReferenceRule}
use Rattle.laws.proofs.Repeat.{replicate_default}
use Rattle.laws.proofs.StaysValid.{initial_valid}
use Rattle.history.proofs.Steps.{performed_valid}
use Rattle.history.proofs.Bounded.{performed_bounded}
use Rattle.history.proofs.Modes.{modes_kept, reference_list}
use Rattle.history.proofs.Objects.{account_intact, follows_first}

notifications_bounded : (L : Limits) (F : Format) → Lawful L F → 0 < notification_limit L → (calls : List (Call F)) (s : State F) (ram : List ℕ) → valid L F s ≡ true → NotificationsBounded L F (trace L F calls s ram)
unfolding trace
notifications_bounded L F lawful above [] s ram v = tt
notifications_bounded L F lawful above (call ∷ calls) s ram v = (
  performed_bounded L F above s ram v call,
  notifications_bounded L F lawful above calls (performed L F call s ram).state (performed L F call s ram).ram (performed_valid L F lawful call s ram v),
)

-- every list of calls, and every first memory
pub demand_3 : (L : Limits) (F : Format) → Lawful L F → 0 < L.controllers → HistoryRule L F
demand_3 L F lawful above calls ram =
    let s = initial_state L F in
    let v = initial_valid L F lawful in
    record {
      objects = λ h. account_intact L F h lawful calls s ram (no_configuration L F) closed (follows_first L F h lawful ram);
      modes = λ c. modes_kept L F c lawful calls s ram at_first v (ap entry (sym (replicate_default L.controllers c idle_controller)));
      bounded = notifications_bounded L F lawful (omega arith) calls s ram v;
    }

-- mode, waiting request and mark of every controller are those of the reference modes
pub reference_rule : (L : Limits) (F : Format) → Lawful L F → ReferenceRule L F
reference_rule L F lawful c calls ram =
    sym (reference_list L F c lawful calls (initial_state L F) ram at_first (initial_valid L F lawful) (ap entry (sym (replicate_default L.controllers c idle_controller))))
