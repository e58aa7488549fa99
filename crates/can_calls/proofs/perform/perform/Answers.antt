-- `can_calls::perform::perform` meets its contract: a request of each kind goes to the function of that kind. Who sends next leaves any sheet as
-- it is.
use mathlib.Core.Path.{refl}
use Rattle.can_state.specs.View.{view}
use Rattle.can_calls.specs.Request.{POLL, EVENT, outcome_of}
use Rattle.can_calls.proofs.Laws.{next_keeps}
use Rattle.can_calls.specs.declared.request.Function.TheVariants.{PollWrite, PollRead, PollMode, PollBusOff, Sent, BusOff, ErrorCounts, Arrived}
use Rattle.can_calls.proofs.Arms.{kind_of_four, is_service}
use Rattle.can_calls.proofs.perform.perform.Goals as goal

pub event-requires : goal.event-requires
event-requires c =
    kind_of_four c.args.request.function Sent BusOff ErrorCounts Arrived EVENT refl refl refl refl c.in-Sent.is

pub poll-requires : goal.poll-requires
poll-requires c =
    kind_of_four c.args.request.function PollWrite PollRead PollMode PollBusOff POLL refl refl refl refl c.in-PollWrite.is

pub service-requires : goal.service-requires
service-requires c =
    is_service c.args.request.function c.in_default.not-PollWrite c.in_default.not-PollRead c.in_default.not-PollMode c.in_default.not-PollBusOff c.in_default.not-Sent c.in_default.not-BusOff c.in_default.not-ErrorCounts c.in_default.not-Arrived c.in_default.not-Next

pub returns-in-Next : goal.returns-in-Next
unfolding outcome_of
returns-in-Next c =
    let given = c.args in
    rw c.in-Next.is (next_keeps (view given.state) given.request.controller given.ram.now given.sheet.now c.next.ensures)
