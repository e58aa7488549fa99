-- The gate is the rules', the sheet has room for what is reported, and the core's service is lifted to the state.
use mathlib.Core.Path.{sym}
use mathlib.Core.Bool.{true, not}
use mathlib.Core.List.{[]}
use native.Mathlib.Omega.{arith}
use lib.ListN.{length}
use Rattle.rules.specs.Limits.{sheet_size}
use Rattle.rules.specs.Calls.{set_controller_mode}
use Rattle.rules.specs.Chip.{chip}
use Rattle.core_services.proofs.Laws.{gate_room}
use Rattle.can_state.specs.View.{view}
use Rattle.can_state.proofs.Gates.{sheet_gate_is, within, lifted_performed}
use Rattle.can_step.proofs.Gates.{left_is}
use Rattle.can_step.proofs.services.set_mode.Goals as goal

pub set_controller_mode-requires : goal.set_controller_mode-requires
set_controller_mode-requires c =
    (λ none. rw (← c.state.view_is) at (within c.args.state.now c.requires).controllers, gate_room (not true) (sheet_size chip) c.args.sheet.now [] (omega arith) c.sheet_gate-gate.ensures)

pub returns : goal.returns
unfolding set_controller_mode
returns c ram =
    let state = c.args.state.now in
    let gate = sheet_gate_is state (sym c.requires) (length c.args.sheet.now) c.sheet_gate-gate.ensures in
    rw (← c.state.view_is)
    (left_is (lifted_performed (view (record { core = c.state.inside.core; settings = c.state.inside.settings })) (rw (rw (← c.state.view_is) at gate) at (c.set_controller_mode.ensures.performed ram))))
