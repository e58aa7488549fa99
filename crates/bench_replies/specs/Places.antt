-- Where the tables of the code have the text of a variant. No promise rests on it.
use Rattle.std.specs.Prelude.{ℕ, Bool, cond, eqb, ltb}
use Rattle.rules.specs.Can.{is_fd, longest_fd}
use Rattle.can_calls.specs.declared.request.Function.{Function}
use Rattle.can_calls.specs.declared.request.Function.TheVariants as functions
use Rattle.can_calls.specs.declared.answer.Answer.{Answer}
use Rattle.can_calls.specs.declared.answer.Answer.TheVariants.{Nothing, Mode, ErrorState, RxErrors, TxErrors, TakenBy, Stored, Unwanted, Lost, SendsNext, Nobody}
use Rattle.core_answers.specs.declared.rejection.Rejection.{Rejection}
use Rattle.core_answers.specs.declared.rejection.Rejection.TheVariants as rejections

abbrev pub call_place : Function → ℕ
call_place functions.Init = 0
call_place functions.DeInit = 1
call_place functions.Set = 2
call_place functions.Get = 3
call_place functions.ErrorState = 4
call_place functions.RxErrors = 5
call_place functions.TxErrors = 6
call_place functions.Write = 7
call_place functions.PollWrite = 8
call_place functions.PollRead = 9
call_place functions.PollMode = 10
call_place functions.PollBusOff = 11
call_place functions.Sent = 12
call_place functions.BusOff = 13
call_place functions.ErrorCounts = 14
call_place functions.Arrived = 15
call_place functions.Next = 16

abbrev pub polled_place : ℕ → ℕ
polled_place told = cond (eqb told 0) 3 0

abbrev pub verdict_place : Function → ℕ → ℕ
verdict_place functions.Init polled = 1
verdict_place functions.DeInit polled = 0
verdict_place functions.Set polled = 2
verdict_place functions.Get polled = 0
verdict_place functions.ErrorState polled = 0
verdict_place functions.RxErrors polled = 0
verdict_place functions.TxErrors polled = 0
verdict_place functions.Write polled = 0
verdict_place functions.PollWrite polled = polled
verdict_place functions.PollRead polled = polled
verdict_place functions.PollMode polled = polled
verdict_place functions.PollBusOff polled = polled
verdict_place functions.Sent polled = 0
verdict_place functions.BusOff polled = 0
verdict_place functions.ErrorCounts polled = 0
verdict_place functions.Arrived polled = 0
verdict_place functions.Next polled = 0

abbrev pub answer_place : Answer → ℕ → ℕ
answer_place Nothing verdict = verdict
answer_place (Mode m) verdict = 4
answer_place (ErrorState n) verdict = 5
answer_place (RxErrors n) verdict = 6
answer_place (TxErrors n) verdict = 6
answer_place (TakenBy h) verdict = 7
answer_place (Stored h) verdict = 8
answer_place Unwanted verdict = 9
answer_place Lost verdict = 10
answer_place (SendsNext h) verdict = 11
answer_place Nobody verdict = 12

abbrev pub other_place : Bool → ℕ
other_place initialised = cond initialised 5 2

abbrev pub transition_place : Function → ℕ → ℕ
transition_place functions.Init other = 3
transition_place functions.DeInit other = other
transition_place functions.Set other = 4
transition_place functions.Get other = other
transition_place functions.ErrorState other = other
transition_place functions.RxErrors other = other
transition_place functions.TxErrors other = other
transition_place functions.Write other = other
transition_place functions.PollWrite other = other
transition_place functions.PollRead other = other
transition_place functions.PollMode other = other
transition_place functions.PollBusOff other = other
transition_place functions.Sent other = other
transition_place functions.BusOff other = other
transition_place functions.ErrorCounts other = other
transition_place functions.Arrived other = other
transition_place functions.Next other = other

abbrev pub data_place : ℕ → ℕ → ℕ
data_place identifier length = cond (is_fd identifier) (cond (ltb longest_fd length) 7 8) 6

abbrev pub wire_place : ℕ → ℕ
wire_place identifier = cond (is_fd identifier) 9 10

abbrev pub refusal_place : Rejection → ℕ → ℕ → ℕ → ℕ
refusal_place rejections.ParamHandle transition fit wire = 0
refusal_place rejections.ParamDataLength transition fit wire = fit
refusal_place rejections.ParamController transition fit wire = 1
refusal_place rejections.Uninit transition fit wire = 2
refusal_place rejections.Transition transition fit wire = transition
refusal_place rejections.InitFailed transition fit wire = 19
refusal_place rejections.SheetTooShort transition fit wire = 11
refusal_place rejections.WrongRamSize transition fit wire = 12
refusal_place rejections.BadIdentifier transition fit wire = 13
refusal_place rejections.NotStarted transition fit wire = 14
refusal_place rejections.ObjectBusy transition fit wire = 15
refusal_place rejections.BusOff transition fit wire = 16
refusal_place rejections.NothingToSend transition fit wire = 17
refusal_place rejections.BadLength transition fit wire = wire
refusal_place rejections.InvalidState transition fit wire = 18
refusal_place rejections.ErrorCountTooLarge transition fit wire = 20
