-- Init and DeInit: a service that finds no reason clears the memory and leaves another state; one that finds a reason changes nothing.
use Prim.Native.Nat.{ℕ}
use mathlib.Core.Path.{◌≡◌, refl, sym, ap, ◌∙◌}
use mathlib.Core.List.{List, []}
use lib.ListN.{length, replicate}
use Rattle.rules.specs.Reason.{◌then◌}
use Rattle.rules.specs.State as rules
use Rattle.rules.specs.Outcome.{Outcome, no_answer, service_report, rejected, accepted, judged, full_gate}
use Rattle.rules.specs.Calls.{zero_ram}
use Rattle.rules.specs.Can.{can_format}
use Rattle.rules.specs.Chip.{chip}
use Rattle.laws.proofs.Reasons.{then_first}
use Rattle.core_answers.specs.Answer.{reason_of, verdict_reason}
use Rattle.core_answers.specs.Performed.{Performed}
use Rattle.core_answers.specs.declared.rejection.Rejection.{Rejection}
use Rattle.core_answers.proofs.Laws.{reason_named, accepted_performed, refused_performed}
use Rattle.can_state.specs.declared.state.State.{State}
use Rattle.can_state.specs.declared.called.Called.{Called}
use Rattle.can_state.specs.View.{view}
use Rattle.can_state.proofs.Gates.{passed}
use Rattle.can_services.specs.Refused.{Refused}

-- the service's number, what it is given, the reason that it finds itself, and the state that it leaves where there is none
module _ (service : ℕ) (s : State) (ram sheet : List ℕ) (own : ℕ) (next : rules.State can_format) where
  abbrev reason : ℕ
  reason = full_gate chip can_format (view s) (length sheet) ram then own

  abbrev outcome : Outcome (rules.State can_format)
  outcome = judged reason (rejected (service_report service) no_answer (view s) ram) (accepted no_answer next (zero_ram chip can_format) [])

  pub accepted_call : {ram' : List ℕ} {given : rules.State can_format} → 0 ≡ reason → given ≡ next → ram' ≡ replicate (length ram) 0
      → Performed outcome 0 no_answer given 0 ram' sheet sheet
  accepted_call none state_is cleared =
      let whole = (passed s (length sheet) ram (then_first (full_gate chip can_format (view s) (length sheet) ram) own (sym none))).ram_whole in
      accepted_performed reason (service_report service) no_answer (view s) ram no_answer next (zero_ram chip can_format) sheet none refl refl state_is
      (cleared ∙ ap (λ (n : ℕ). replicate n 0) whole)

  pub refused_call : {r : Rejection} {c : Called (Unit {0})} {after : List ℕ} → reason_of r ≡ reason → Refused service r s c sheet after
      → Performed outcome (verdict_reason c.reply) no_answer (view c.state) c.notifications ram sheet after
  refused_call {r} found told =
      rw told.reply_is
      (refused_performed reason (service_report service) no_answer (view s) ram (accepted no_answer next (zero_ram chip can_format) []) found (reason_named r)
      (ap view told.state_is) told.noted)
