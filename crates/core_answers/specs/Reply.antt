-- The paper's values for every case of the answers that tell more than a verdict.
use Rattle.std.specs.Prelude.{ℕ, Option, Some, None, Result, Ok, Err}
use Rattle.std.proofs.Math.Option.{none, some}
use Rattle.rules.specs.Outcome as rules
use Rattle.rules.specs.Outcome.{Answer, no_answer, told, taken_by, stored_in, unwanted, lost, sends_next}
use Rattle.core_answers.specs.declared.rejection.Rejection.{Rejection}
use Rattle.core_answers.specs.declared.question.Question.{Question}
use Rattle.core_answers.specs.declared.question.Question.TheVariants.{Mode, ErrorState, RxErrors, TxErrors}
use Rattle.core_answers.specs.declared.reply.Arrival.{Arrival}
use Rattle.core_answers.specs.declared.reply.Arrival.TheVariants.{Stored, Unwanted, Lost}

-- the code's question as the rules'
abbrev pub question_of : Question → rules.Question
question_of Mode = rules.of_mode
question_of ErrorState = rules.of_error_state
question_of RxErrors = rules.of_rx_errors
question_of TxErrors = rules.of_tx_errors

-- A question of a controller has its answer, "and 0 with a no".
abbrev pub question_answer : Question → Result ℕ Rejection → Answer
question_answer q (Ok n) = told (question_of q) n
question_answer q (Err r) = told (question_of q) 0

-- Write answers the object that took the frame.
abbrev pub write_answer : Result ℕ Rejection → Answer
write_answer (Ok h) = taken_by h
write_answer (Err r) = no_answer

-- "All three return 0", "A no names none of the three, only its reason."
abbrev pub arrival_answer : Result Arrival Rejection → Answer
arrival_answer (Ok (Stored h)) = stored_in h
arrival_answer (Ok Unwanted) = unwanted
arrival_answer (Ok Lost) = lost
arrival_answer (Err r) = no_answer

-- Who sends next on a controller, or 02's "none", which is no refusal.
abbrev pub next_answer : Result (Option ℕ) Rejection → Answer
next_answer (Ok (Some h)) = sends_next (some h)
next_answer (Ok None) = sends_next none
next_answer (Err r) = no_answer
