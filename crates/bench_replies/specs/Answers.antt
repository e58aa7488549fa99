-- What an accepted call answers, in words.
use Rattle.std.specs.Prelude.{ℕ, cond, List, eqb}
use Prim.Native.String.{String}
use Rattle.can_calls.specs.declared.request.Function.{Function}
use Rattle.can_calls.specs.declared.request.Function.TheVariants as functions
use Rattle.can_calls.specs.declared.answer.Answer.{Answer}
use Rattle.can_calls.specs.declared.answer.Answer.TheVariants.{Nothing, Mode, ErrorState, RxErrors, TxErrors, TakenBy, Stored, Unwanted, Lost, SendsNext, Nobody}
use Rattle.bench_say.specs.Say.{said, five}

-- a poll that told so many notifications: they stand in lines of their own
abbrev pub polled_text : ℕ → String
polled_text told = cond (eqb told 0) "accepted: nothing to report" "accepted"

-- a call that answers nothing but its verdict
abbrev pub verdict_text : Function → ℕ → String
verdict_text functions.Init told = "accepted: %c, %o"
verdict_text functions.DeInit told = "accepted"
verdict_text functions.Set told = "accepted: waits for the mode poll"
verdict_text functions.Get told = "accepted"
verdict_text functions.ErrorState told = "accepted"
verdict_text functions.RxErrors told = "accepted"
verdict_text functions.TxErrors told = "accepted"
verdict_text functions.Write told = "accepted"
verdict_text functions.PollWrite told = polled_text told
verdict_text functions.PollRead told = polled_text told
verdict_text functions.PollMode told = polled_text told
verdict_text functions.PollBusOff told = polled_text told
verdict_text functions.Sent told = "accepted"
verdict_text functions.BusOff told = "accepted"
verdict_text functions.ErrorCounts told = "accepted"
verdict_text functions.Arrived told = "accepted"
verdict_text functions.Next told = "accepted"

abbrev pub answer_text : Answer → Function → ℕ → String
answer_text Nothing function told = verdict_text function told
answer_text (Mode m) function told = "%m"
answer_text (ErrorState n) function told = "%e"
answer_text (RxErrors n) function told = "%n"
answer_text (TxErrors n) function told = "%n"
answer_text (TakenBy h) function told = "accepted: waits in object %0"
answer_text (Stored h) function told = "stored in object %0"
answer_text Unwanted function told = "unwanted: no object fits"
answer_text Lost function told = "lost: every object that fits is full"
answer_text (SendsNext h) function told = "object %0 sends next"
answer_text Nobody function told = "nobody waits"

-- the numbers of an answer: those of the configuration in use where nothing else is answered
abbrev pub answer_numbers : Answer → ℕ → ℕ → List ℕ
answer_numbers Nothing controllers objects = five controllers objects 0 0 0
answer_numbers (Mode m) controllers objects = five m 0 0 0 0
answer_numbers (ErrorState n) controllers objects = five n 0 0 0 0
answer_numbers (RxErrors n) controllers objects = five n 0 0 0 0
answer_numbers (TxErrors n) controllers objects = five n 0 0 0 0
answer_numbers (TakenBy h) controllers objects = five h 0 0 0 0
answer_numbers (Stored h) controllers objects = five h 0 0 0 0
answer_numbers Unwanted controllers objects = five 0 0 0 0 0
answer_numbers Lost controllers objects = five 0 0 0 0 0
answer_numbers (SendsNext h) controllers objects = five h 0 0 0 0
answer_numbers Nobody controllers objects = five 0 0 0 0 0

-- the frame that is sent next
abbrev pub its_identifier : ℕ → List ℕ
its_identifier identifier = said ": id %i" (five identifier 0 0 0 0)

-- why nobody sends on a controller where somebody may wait
abbrev pub off_the_bus : ℕ → List ℕ
off_the_bus controller = said "controller %0 is off the bus" (five controller 0 0 0 0)

-- error counts that take their controller off the bus
abbrev pub counted_off : ℕ → List ℕ
counted_off controller = said "accepted: controller %0 is off the bus" (five controller 0 0 0 0)
