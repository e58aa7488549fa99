-- The gate is the rules', what it lets pass has places and room, and the core's event is lifted to the state.
use mathlib.Core.Path.{◌≡◌, sym, ◌∙◌}
use mathlib.Core.List.{[]}
use native.Mathlib.Omega.{arith}
use lib.ListN.{length}
use Rattle.rules.specs.Outcome.{sheet_gate}
use Rattle.rules.specs.Calls.{errors_counted}
use Rattle.rules.specs.Can.{can_format}
use Rattle.rules.specs.Chip.{chip}
use Rattle.core_answers.specs.Answer.{verdict_reason}
use Rattle.can_state.specs.View.{view}
use Rattle.can_state.proofs.Gates.{sheet_gate_is, sheet_passed, sheet_room, lifted_performed}
use Rattle.can_events.proofs.errors_counted.errors_counted.Goals as goal

pub errors_counted-reported-requires : goal.errors_counted-reported-requires
errors_counted-reported-requires c =
    let state = c.args.state in
    let words = length c.args.sheet.now in
    let gate_is = sheet_gate_is state c.valid.ensures words c.sheet_gate-gate.ensures in
    λ none.
    let few = rw (← c.next.view_is) at (sheet_passed state words (sym gate_is ∙ none)).controllers in
    let room = sheet_room state words (sym gate_is ∙ none) in
    (few, few, omega arith)

pub returns : goal.returns
unfolding errors_counted
returns c =
    let state = c.args.state in
    let words = length c.args.sheet.now in
    let gate_is : verdict_reason c.sheet_gate-gate.result ≡ sheet_gate chip can_format (view state) words = sheet_gate_is state c.valid.ensures words c.sheet_gate-gate.ensures in
    rw (← c.next.view_is)
    (lifted_performed (view (record { core = c.next.inside.core; settings = c.next.inside.settings })) (rw (rw (← c.next.view_is) at gate_is) at (c.errors_counted-reported.ensures.performed [])))
