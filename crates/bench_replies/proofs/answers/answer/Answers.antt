-- `bench_replies::answers::answer` meets its contract: the text and the numbers are those of the answer.
use Rattle.bench_replies.proofs.Tables.{answer_found}
use Rattle.bench_replies.proofs.answers.answer.Goals as goal

pub returns : goal.returns
returns c =
    let a = c.args in
    rw (c.place-place.ensures, c.verdict_place.ensures, c.polled_place.ensures, answer_found a.answer a.function a.told, c.numbers.ensures) at c.say_one.ensures
