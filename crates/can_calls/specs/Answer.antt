-- The answers of all calls in the rules' words.
use Rattle.std.specs.Prelude.{ℕ, Result, Ok, Err}
use Rattle.std.proofs.Math.Option.{none, some}
use Rattle.rules.specs.Outcome as rules
use Rattle.core_answers.specs.declared.rejection.Rejection.{Rejection}
use Rattle.can_calls.specs.declared.answer.Answer.{Answer}
use Rattle.can_calls.specs.declared.answer.Answer.TheVariants.{Nothing, Mode, ErrorState, RxErrors, TxErrors, TakenBy, Stored, Unwanted, Lost, SendsNext, Nobody}

-- each answer is the rules' own of the same name; of the questions of a controller there are four, of who sends next two
abbrev pub answer_of : Answer → rules.Answer
answer_of Nothing = rules.no_answer
answer_of (Mode m) = rules.told rules.of_mode m
answer_of (ErrorState n) = rules.told rules.of_error_state n
answer_of (RxErrors n) = rules.told rules.of_rx_errors n
answer_of (TxErrors n) = rules.told rules.of_tx_errors n
answer_of (TakenBy h) = rules.taken_by h
answer_of (Stored h) = rules.stored_in h
answer_of Unwanted = rules.unwanted
answer_of Lost = rules.lost
answer_of (SendsNext h) = rules.sends_next (some h)
answer_of Nobody = rules.sends_next none

-- the number that a question of a controller is answered with: 0 with a no
abbrev pub number_told : Result ℕ Rejection → ℕ
number_told (Ok n) = n
number_told (Err r) = 0
