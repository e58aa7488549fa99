-- `bench_replies::refusals::refusal` meets its contract: the text is that of the reason.
use Rattle.bench_replies.proofs.Tables.{refusal_found}
use Rattle.bench_replies.proofs.refusals.refusal.Goals as goal

pub returns : goal.returns
returns c =
    let a = c.args in
    rw (c.place.ensures, c.transition_place-transition.ensures, c.other_place.ensures, c.data_place-fit.ensures, c.wire_place-wire.ensures, refusal_found a.reason a.function a.identifier a.length a.initialised) at c.say_one.ensures
