-- `can_calls::answer::question_answer` meets its contract: each question has its answer, with the number in the reply.
use Rattle.can_calls.proofs.Laws.{question_told}
use Rattle.can_calls.proofs.answer.question_answer.Goals as goal

pub returns-in-Mode : goal.returns-in-Mode
returns-in-Mode c = question_told c.args.reply c.in-Mode.is c.number_told-number.ensures

pub returns-in-ErrorState : goal.returns-in-ErrorState
returns-in-ErrorState c = question_told c.args.reply c.in-ErrorState.is c.number_told-number.ensures

pub returns-in-RxErrors : goal.returns-in-RxErrors
returns-in-RxErrors c = question_told c.args.reply c.in-RxErrors.is c.number_told-number.ensures

pub returns-in-TxErrors : goal.returns-in-TxErrors
returns-in-TxErrors c = question_told c.args.reply c.in-TxErrors.is c.number_told-number.ensures
