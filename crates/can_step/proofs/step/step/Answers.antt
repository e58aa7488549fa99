-- Each kind makes its call: what it leaves is what the rules say of the call of that kind. A valid state leads to a valid one.
use Prim.Native.Nat.{◌<◌, ◌^◌}
use mathlib.Core.Path.{◌≡◌}
use native.Mathlib.Omega.{arith}
use native.Mathlib.Nat.{mod-eq_of_lt}
use Rattle.rules.specs.Polls as polls
use Rattle.rules.specs.Calls as calls
use Rattle.history.specs.Call.{performed}
use Rattle.can_step.proofs.Steps.{beyond, made_by, made_otherwise}
use Rattle.can_step.proofs.step.step.Goals as goal

pub returns-in-0 : goal.returns-in-0
unfolding performed
returns-in-0 c =
    let a = c.args in
    made_by a.sheet.now a.place a.value a.handle a.bytes.now a.state.now a.ram.now c.requires 0 c.in-0.is c.init.ensures

pub returns-in-1 : goal.returns-in-1
unfolding performed
returns-in-1 c =
    let a = c.args in
    made_by a.sheet.now a.place a.value a.handle a.bytes.now a.state.now a.ram.now c.requires 1 c.in-1.is c.deinit.ensures

pub returns-in-2 : goal.returns-in-2
unfolding performed
returns-in-2 c =
    let a = c.args in
    made_by a.sheet.now a.place a.value a.handle a.bytes.now a.state.now a.ram.now c.requires 2 c.in-2.is (c.set_mode.ensures a.ram.now)

pub returns-in-3 : goal.returns-in-3
unfolding performed
returns-in-3 c =
    let a = c.args in
    made_by a.sheet.now a.place a.value a.handle a.bytes.now a.state.now a.ram.now c.requires 3 c.in-3.is (c.ask.ensures a.ram.now)

pub returns-in-4 : goal.returns-in-4
unfolding performed
returns-in-4 c =
    let a = c.args in
    let short : a.handle < 2 ^ 16 = omega arith in
    made_by a.sheet.now a.place a.value a.handle a.bytes.now a.state.now a.ram.now c.requires 4 c.in-4.is (rw (mod-eq_of_lt short) c.write.ensures)

pub returns-in-5 : goal.returns-in-5
unfolding performed calls.main_function_write polls.main_function_write
returns-in-5 c =
    let a = c.args in
    made_by a.sheet.now a.place a.value a.handle a.bytes.now a.state.now a.ram.now c.requires 5 c.in-5.is c.objects.ensures

pub returns-in-6 : goal.returns-in-6
unfolding performed calls.main_function_read polls.main_function_read
returns-in-6 c =
    let a = c.args in
    made_by a.sheet.now a.place a.value a.handle a.bytes.now a.state.now a.ram.now c.requires 6 c.in-6.is c.objects-in-6.ensures

pub returns-in-7 : goal.returns-in-7
unfolding performed calls.main_function_mode polls.main_function_mode
returns-in-7 c =
    let a = c.args in
    made_by a.sheet.now a.place a.value a.handle a.bytes.now a.state.now a.ram.now c.requires 7 c.in-7.is c.controllers.ensures

pub returns-in-8 : goal.returns-in-8
unfolding performed calls.main_function_bus_off polls.main_function_bus_off
returns-in-8 c =
    let a = c.args in
    made_by a.sheet.now a.place a.value a.handle a.bytes.now a.state.now a.ram.now c.requires 8 c.in-8.is c.controllers-in-8.ensures

pub returns-in-9 : goal.returns-in-9
unfolding performed
returns-in-9 c =
    let a = c.args in
    made_by a.sheet.now a.place a.value a.handle a.bytes.now a.state.now a.ram.now c.requires 9 c.in-9.is (c.sent.ensures a.ram.now a.sheet.now)

pub returns-in-10 : goal.returns-in-10
unfolding performed
returns-in-10 c =
    let a = c.args in
    made_by a.sheet.now a.place a.value a.handle a.bytes.now a.state.now a.ram.now c.requires 10 c.in-10.is (c.off.ensures a.ram.now a.sheet.now)

pub returns-in-12 : goal.returns-in-12
unfolding performed
returns-in-12 c =
    let a = c.args in
    made_by a.sheet.now a.place a.value a.handle a.bytes.now a.state.now a.ram.now c.requires 12 c.in-12.is (c.ask-in-12.ensures a.ram.now)

pub returns-in-13 : goal.returns-in-13
unfolding performed
returns-in-13 c =
    let a = c.args in
    made_by a.sheet.now a.place a.value a.handle a.bytes.now a.state.now a.ram.now c.requires 13 c.in-13.is (c.ask-in-13.ensures a.ram.now)

pub returns-in-14 : goal.returns-in-14
unfolding performed
returns-in-14 c =
    let a = c.args in
    made_by a.sheet.now a.place a.value a.handle a.bytes.now a.state.now a.ram.now c.requires 14 c.in-14.is (c.ask-in-14.ensures a.ram.now)

pub returns-in-15 : goal.returns-in-15
unfolding performed
returns-in-15 c =
    let a = c.args in
    made_by a.sheet.now a.place a.value a.handle a.bytes.now a.state.now a.ram.now c.requires 15 c.in-15.is (c.counted.ensures a.ram.now)

pub returns-in_default : goal.returns-in_default
unfolding performed
returns-in_default c =
    let a = c.args in
    made_otherwise a.sheet.now a.place a.value a.handle a.bytes.now a.state.now a.ram.now c.requires (beyond (λ (other : c.args.kind ≡ 11 → ⊥). omega arith)) c.arrive.ensures
