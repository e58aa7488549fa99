-- The gate is the rules', the sheet has room for what is reported, and the core's service is lifted to the state.
use Prim.Native.Nat.{ℕ}
use mathlib.Core.Path.{◌≡◌}
use mathlib.Core.Bool.{not}
use mathlib.Core.List.{List, []}
use native.Mathlib.Omega.{arith}
use lib.ListN.{length}
use Rattle.rules.specs.Limits.{sheet_size}
use Rattle.rules.specs.Outcome.{sheet_gate}
use Rattle.rules.specs.Calls.{ask_controller}
use Rattle.rules.specs.Can.{can_format}
use Rattle.rules.specs.Chip.{chip}
use Rattle.core_answers.specs.Answer.{verdict_reason}
use Rattle.core_services.proofs.Laws.{gate_room}
use Rattle.can_state.specs.declared.state.State.{State}
use Rattle.can_state.specs.View.{view}
use Rattle.can_state.proofs.Gates.{sheet_gate_is, lifted_performed}
use Rattle.can_services.proofs.questions.ask.Goals as goal

pub ask_controller-reported-requires : goal.ask_controller-reported-requires
ask_controller-reported-requires c = gate_room (not c.valid.result) (sheet_size chip) c.args.sheet.now [] (omega arith) c.sheet_gate-gate.ensures

pub returns : goal.returns
unfolding ask_controller
returns c =
    let state : State = c.args.state in
    let sheet : List ℕ = c.args.sheet.now in
    let gate_is : verdict_reason c.sheet_gate-gate.result ≡ sheet_gate chip can_format (view state) (length sheet) = sheet_gate_is state c.valid.ensures (length sheet) c.sheet_gate-gate.ensures in
    rw (← c.state.view_is)
    (lifted_performed (view (record { core = c.state.inside.core; settings = c.state.inside.settings })) (rw (rw (← c.state.view_is) at gate_is) at (c.ask_controller-reported.ensures [])))
