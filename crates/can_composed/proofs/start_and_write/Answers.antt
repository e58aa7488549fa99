-- `can_composed::start_and_write` meets its contract: each call is handed the state and the memory that the last one left, and what it
-- then leaves is its outcome, so the four contracts make up the list's. No call changes the length of the sheet.
use Prim.Native.Nat.{ℕ}
use native.Mathlib.Omega.{arith}
use mathlib.Core.Path.{◌≡◌, ap, ◌∙◌}
use lib.ListN.{length}
use Rattle.rules.specs.Can.{can_format}
use Rattle.rules.specs.Chip.{chip}
use Rattle.rules.specs.State.{State}
use Rattle.rules.specs.Outcome.{Outcome}
use Rattle.history.specs.Call.{performed}
use Rattle.history.specs.Trace.{left_by}
use Rattle.can_state.specs.View.{view}
use Rattle.can_state.specs.Given.{Given}
use Rattle.can_composed.proofs.Laws.{same_write}
use Rattle.can_composed.proofs.start_and_write.Goals as goal

pub shape_of-ram : goal.shape_of-ram
shape_of-ram c = omega (arith, c.write-written.auto, c.init-called.auto)

pub shape_of-sheet : goal.shape_of-sheet
shape_of-sheet c = omega (arith, c.write-written.auto, c.main_function_mode-polled.auto, c.set_controller_mode-asked.auto, c.init-called.auto)

pub returns : goal.returns
unfolding left_by performed
returns c fits =
    let given = c.args in
    let first = c.initial_state in
    let written = c.write-written in
    let second = ap (λ (g : Given (Unit {0})). g.state) c.called.view_is in
    let third = ap (λ (g : Given (Unit {0})). g.state) c.asked.view_is in
    let fourth = ap (λ (g : Given (Unit {0})). g.state) c.polled.view_is in
    let same =
    same_write chip can_format (length given.sheet.now) (length c.init-called.new.sheet) (length c.set_controller_mode-asked.new.sheet) (length c.main_function_mode-polled.new.sheet) 0 1 given.object given.handle
    (record { identifier = given.identifier; sdu = given.sdu.now }) given.bytes.now given.ram.now c.init-called.new.ram written.new.ram
    (view first.result) (view c.init-called.result.state) (view c.set_controller_mode-asked.result.state) (view c.main_function_mode-polled.result.state) (view written.result.state)
    first.ensures (omega (arith, c.init-called.auto)) (omega (arith, c.init-called.auto, c.set_controller_mode-asked.auto)) (omega (arith, c.init-called.auto, c.set_controller_mode-asked.auto, c.main_function_mode-polled.auto))
    c.init-called.ensures.state_is c.init-called.ensures.ram_is (rw second at c.set_controller_mode-asked.ensures.state_is) (rw third at c.main_function_mode-polled.ensures.state_is) in
    let last = ap (λ (g : Given ℕ). g.state) c.written.view_is in
    let state_is = last ∙ (rw fourth at written.ensures.state_is) in
    let ram_is = rw fourth at written.ensures.ram_is in
    record { state_is = state_is ∙ ap (λ (o : Outcome (State can_format)). o.state) same; ram_is = ram_is ∙ ap (λ (o : Outcome (State can_format)). o.ram) same }
