-- `can_calls::perform::event` meets its contract: the event is the one that the request names. Those that take no memory, and those that take
-- neither memory nor sheet, leave what they do not take as it is.
use lib.ListN.{length}
use Rattle.can_state.specs.View.{view}
use Rattle.can_calls.specs.Request.{outcome_of}
use Rattle.can_calls.proofs.Laws.{told, sent_keeps, bus_off_keeps, counted_keeps}
use Rattle.can_calls.proofs.Arms.{last_event}
use Rattle.can_calls.proofs.perform.event.Goals as goal

pub returns-in-Sent : goal.returns-in-Sent
unfolding outcome_of
returns-in-Sent c =
    let given = c.args in
    rw c.in-Sent.is
    (told c.with_verdict.ensures
    (sent_keeps (view given.state) given.request.object given.ram.now given.sheet.now c.tx_complete.ensures))

pub returns-in-BusOff : goal.returns-in-BusOff
unfolding outcome_of
returns-in-BusOff c =
    let given = c.args in
    rw c.in-BusOff.is
    (told c.with_verdict-in-BusOff.ensures
    (bus_off_keeps (view given.state) given.request.controller given.ram.now given.sheet.now c.bus_off_detected.ensures))

pub returns-in-ErrorCounts : goal.returns-in-ErrorCounts
unfolding outcome_of
returns-in-ErrorCounts c =
    let given = c.args in
    rw c.in-ErrorCounts.is
    (told c.with_verdict-in-ErrorCounts.ensures
    (counted_keeps (view given.state) given.request.controller given.ram.now (length given.sheet.now) given.request.number given.request.receive
    c.errors_counted.ensures))

pub returns-in_default : goal.returns-in_default
unfolding outcome_of
returns-in_default c =
    rw (last_event c.args.request.function c.requires c.in_default.not-Sent c.in_default.not-BusOff c.in_default.not-ErrorCounts) c.arrived.ensures
