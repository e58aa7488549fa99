-- `bench_replies::calls::call` meets its contract: the text and the numbers are those of the call.
use Rattle.bench_replies.proofs.Tables.{call_found}
use Rattle.bench_replies.proofs.calls.call.Goals as goal

pub returns : goal.returns
returns c =
    rw (c.place.ensures, call_found c.args.request.function, c.numbers.ensures) at c.say_one.ensures
