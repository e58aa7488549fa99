-- The gate is the rules', what it lets pass has room, and the choice on the core is lifted to the state.
use mathlib.Core.Path.{◌≡◌, sym, ◌∙◌}
use native.Mathlib.Omega.{arith}
use Rattle.rules.specs.Outcome.{ram_gate}
use Rattle.rules.specs.Calls.{next_to_send}
use Rattle.rules.specs.Can.{can_format}
use Rattle.rules.specs.Chip.{chip}
use Rattle.core_answers.specs.Answer.{verdict_reason}
use Rattle.can_state.specs.View.{view}
use Rattle.can_state.proofs.Gates.{ram_gate_is, ram_passed, lifted_performed}
use Rattle.can_arbitration.proofs.next.next_to_send.Goals as goal

pub next_lent-requires : goal.next_lent-requires
next_lent-requires c =
    let state = c.args.state in
    let ram = c.args.ram.now in
    let gate_is = ram_gate_is state c.valid.ensures ram c.ram_gate-gate.ensures in
    record {
      room = λ none. let passed = ram_passed state ram (sym gate_is ∙ none) in record { objects_fit = rw (← c.state.view_is) at passed.0.objects; ram_whole = passed.1 };
      readable = λ none. let few = (ram_passed state ram (sym gate_is ∙ none)).0.objects in let held = rw (← c.state.view_is) at few in omega (arith, held);
    }

pub returns : goal.returns
unfolding next_to_send
returns c =
    let state = c.args.state in
    let ram = c.args.ram.now in
    let gate_is : verdict_reason c.ram_gate-gate.result ≡ ram_gate chip can_format (view state) ram = ram_gate_is state c.valid.ensures ram c.ram_gate-gate.ensures in
    rw (← c.state.view_is)
    (lifted_performed (view (record { core = c.state.inside.core; settings = c.state.inside.settings })) (rw (rw (← c.state.view_is) at gate_is) at c.next_lent.ensures))
