-- Each text is found in its table: the texts in a row, with a bar behind each but the last.
use Prim.Native.Nat.{ℕ}
use mathlib.Core.Path.{◌≡◌, refl}
use mathlib.Core.Bool.{Bool, true, false, cond}
use mathlib.Core.List.{List, [], ◌∷◌}
use lib.Dec.{eqb, ltb}
use Rattle.rules.specs.Can.{is_fd, longest_fd}
use Rattle.bench_words.specs.Text.{ascii}
use Rattle.bench_words.specs.Piece.{piece}
use Rattle.bench_say.proofs.Joined.{joined}
use Rattle.can_calls.specs.declared.request.Function.{Function}
use Rattle.can_calls.specs.declared.request.Function.TheVariants as functions
use Rattle.core_answers.specs.declared.rejection.Rejection.{Rejection}
use Rattle.core_answers.specs.declared.rejection.Rejection.TheVariants as rejections
use Rattle.can_calls.specs.declared.answer.Answer.{Answer}
use Rattle.can_calls.specs.declared.answer.Answer.TheVariants as answers
use Rattle.bench_replies.specs.Calls.{call_text}
use Rattle.bench_replies.specs.Answers.{answer_text}
use Rattle.bench_replies.specs.Refusals as refusals
use Rattle.bench_replies.specs.Places.{call_place, polled_place, verdict_place, answer_place, other_place, transition_place, data_place, wire_place, refusal_place}

pub call_found : (x : Function) → piece (call_place x) (joined (call_text functions.Init ∷ call_text functions.DeInit ∷ call_text functions.Set ∷ call_text functions.Get ∷ call_text functions.ErrorState ∷ call_text functions.RxErrors ∷ call_text functions.TxErrors ∷ call_text functions.Write ∷ call_text functions.PollWrite ∷ call_text functions.PollRead ∷ call_text functions.PollMode ∷ call_text functions.PollBusOff ∷ call_text functions.Sent ∷ call_text functions.BusOff ∷ call_text functions.ErrorCounts ∷ call_text functions.Arrived ∷ call_text functions.Next ∷ [])) ≡ ascii (call_text x)
unfolding piece
call_found functions.Init = refl
call_found functions.DeInit = refl
call_found functions.Set = refl
call_found functions.Get = refl
call_found functions.ErrorState = refl
call_found functions.RxErrors = refl
call_found functions.TxErrors = refl
call_found functions.Write = refl
call_found functions.PollWrite = refl
call_found functions.PollRead = refl
call_found functions.PollMode = refl
call_found functions.PollBusOff = refl
call_found functions.Sent = refl
call_found functions.BusOff = refl
call_found functions.ErrorCounts = refl
call_found functions.Arrived = refl
call_found functions.Next = refl

abbrev answer_texts : List ℕ
answer_texts = joined ("accepted" ∷ "accepted: %c, %o" ∷ "accepted: waits for the mode poll" ∷ "accepted: nothing to report" ∷ "%m" ∷ "%e" ∷ "%n" ∷ "accepted: waits in object %0" ∷ "stored in object %0" ∷ "unwanted: no object fits" ∷ "lost: every object that fits is full" ∷ "object %0 sends next" ∷ "nobody waits" ∷ [])

polled_found : (silent : Bool) → piece (cond silent 3 0) answer_texts ≡ ascii (cond silent "accepted: nothing to report" "accepted")
unfolding piece
polled_found true = refl
polled_found false = refl

pub answer_found : (a : Answer) (f : Function) (told : ℕ) → piece (answer_place a (verdict_place f (polled_place told))) answer_texts ≡ ascii (answer_text a f told)
unfolding piece
answer_found answers.Nothing functions.Init told = refl
answer_found answers.Nothing functions.DeInit told = refl
answer_found answers.Nothing functions.Set told = refl
answer_found answers.Nothing functions.Get told = refl
answer_found answers.Nothing functions.ErrorState told = refl
answer_found answers.Nothing functions.RxErrors told = refl
answer_found answers.Nothing functions.TxErrors told = refl
answer_found answers.Nothing functions.Write told = refl
answer_found answers.Nothing functions.PollWrite told = polled_found (eqb told 0)
answer_found answers.Nothing functions.PollRead told = polled_found (eqb told 0)
answer_found answers.Nothing functions.PollMode told = polled_found (eqb told 0)
answer_found answers.Nothing functions.PollBusOff told = polled_found (eqb told 0)
answer_found answers.Nothing functions.Sent told = refl
answer_found answers.Nothing functions.BusOff told = refl
answer_found answers.Nothing functions.ErrorCounts told = refl
answer_found answers.Nothing functions.Arrived told = refl
answer_found answers.Nothing functions.Next told = refl
answer_found (answers.Mode m) f told = refl
answer_found (answers.ErrorState n) f told = refl
answer_found (answers.RxErrors n) f told = refl
answer_found (answers.TxErrors n) f told = refl
answer_found (answers.TakenBy h) f told = refl
answer_found (answers.Stored h) f told = refl
answer_found answers.Unwanted f told = refl
answer_found answers.Lost f told = refl
answer_found (answers.SendsNext h) f told = refl
answer_found answers.Nobody f told = refl

abbrev refusal_texts : List ℕ
refusal_texts = joined ("object %0 is no configured sending object" ∷ "controller %0 is not configured" ∷ "the driver is not initialised" ∷ "the driver is initialised already" ∷ "controller %0 cannot go from %m to %m" ∷ "a controller is STARTED" ∷ "%b, and a classic frame holds at most 8" ∷ "%b, and an FD frame holds at most 64" ∷ "%b as an FD frame, and the object's payload is 8" ∷ "no FD frame on the wire has %b" ∷ "no classic frame on the wire has %b" ∷ "the sheet has %w, and a call needs %0" ∷ "the memory has %b, and the chip's has %0" ∷ "id %i is not a valid identifier" ∷ "controller %0 is not STARTED" ∷ "object %0 holds the frame of line %0" ∷ "controller %0 is off the bus" ∷ "object %0 holds no frame that waits to be sent" ∷ "the driver state is not valid" ∷ "the configuration is not valid" ∷ "an error count is too large" ∷ [])

transition_found : (f : Function) (b : Bool) → piece (transition_place f (other_place b)) refusal_texts ≡ ascii (refusals.transition_text f b)
unfolding piece
transition_found functions.Init b = refl
transition_found functions.DeInit true = refl
transition_found functions.DeInit false = refl
transition_found functions.Set b = refl
transition_found functions.Get true = refl
transition_found functions.Get false = refl
transition_found functions.ErrorState true = refl
transition_found functions.ErrorState false = refl
transition_found functions.RxErrors true = refl
transition_found functions.RxErrors false = refl
transition_found functions.TxErrors true = refl
transition_found functions.TxErrors false = refl
transition_found functions.Write true = refl
transition_found functions.Write false = refl
transition_found functions.PollWrite true = refl
transition_found functions.PollWrite false = refl
transition_found functions.PollRead true = refl
transition_found functions.PollRead false = refl
transition_found functions.PollMode true = refl
transition_found functions.PollMode false = refl
transition_found functions.PollBusOff true = refl
transition_found functions.PollBusOff false = refl
transition_found functions.Sent true = refl
transition_found functions.Sent false = refl
transition_found functions.BusOff true = refl
transition_found functions.BusOff false = refl
transition_found functions.ErrorCounts true = refl
transition_found functions.ErrorCounts false = refl
transition_found functions.Arrived true = refl
transition_found functions.Arrived false = refl
transition_found functions.Next true = refl
transition_found functions.Next false = refl

data_found : (identifier length : ℕ) → piece (data_place identifier length) refusal_texts ≡ ascii (refusals.data_text identifier length)
unfolding piece
data_found identifier length = go (is_fd identifier) (ltb longest_fd length)
  where
    go : (fd long : Bool) → piece (cond fd (cond long 7 8) 6) refusal_texts ≡ ascii (cond fd (cond long "%b, and an FD frame holds at most 64" "%b as an FD frame, and the object's payload is 8") "%b, and a classic frame holds at most 8")
    go true true = refl
    go true false = refl
    go false long = refl

wire_found : (identifier : ℕ) → piece (wire_place identifier) refusal_texts ≡ ascii (refusals.wire_text identifier)
unfolding piece
wire_found identifier = go (is_fd identifier)
  where
    go : (fd : Bool) → piece (cond fd 9 10) refusal_texts ≡ ascii (cond fd "no FD frame on the wire has %b" "no classic frame on the wire has %b")
    go true = refl
    go false = refl

pub refusal_found : (x : Rejection) (f : Function) (identifier length : ℕ) (b : Bool) →
    piece (refusal_place x (transition_place f (other_place b)) (data_place identifier length) (wire_place identifier)) refusal_texts ≡ ascii (refusals.refusal_text x f identifier length b)
unfolding piece
refusal_found rejections.ParamHandle f identifier length b = refl
refusal_found rejections.ParamDataLength f identifier length b = data_found identifier length
refusal_found rejections.ParamController f identifier length b = refl
refusal_found rejections.Uninit f identifier length b = refl
refusal_found rejections.Transition f identifier length b = transition_found f b
refusal_found rejections.InitFailed f identifier length b = refl
refusal_found rejections.SheetTooShort f identifier length b = refl
refusal_found rejections.WrongRamSize f identifier length b = refl
refusal_found rejections.BadIdentifier f identifier length b = refl
refusal_found rejections.NotStarted f identifier length b = refl
refusal_found rejections.ObjectBusy f identifier length b = refl
refusal_found rejections.BusOff f identifier length b = refl
refusal_found rejections.NothingToSend f identifier length b = refl
refusal_found rejections.BadLength f identifier length b = wire_found identifier
refusal_found rejections.InvalidState f identifier length b = refl
refusal_found rejections.ErrorCountTooLarge f identifier length b = refl
