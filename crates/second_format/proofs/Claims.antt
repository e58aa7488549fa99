-- The theorems of laws and history for this chip and this kind of frame: each is the law itself, with nothing proved anew but `Lawful`.
use native.Mathlib.Omega.{arith}
use Rattle.laws.specs.WriteRule.{WriteRule, MemberRule, BusyRule}
use Rattle.laws.specs.WriterRule.{ReadBackRule, OnlyBytesRule, SayRule, CannotSayRule, ShortBufferRule, BufferKeptRule, WrittenRule}
use Rattle.laws.specs.NextRule.{NoneRule, RankRule}
use Rattle.laws.proofs.WriteRule.{write_rule, member_rule, busy_rule}
use Rattle.laws.proofs.WriterRule.{read_back_rule, only_bytes_rule, say_rule, cannot_say_rule, short_buffer_rule, buffer_kept_rule, written_rule}
use Rattle.laws.proofs.NextRule.{none_rule, rank_rule}
use Rattle.history.specs.Claim.{HistoryRule, ReferenceRule}
use Rattle.history.specs.Cancellation.{CancellationRule}
use Rattle.history.specs.PollRule.{PollRule, FirstPollRule}
use Rattle.history.specs.Demand1.{RefusalRule, ValidRule}
use Rattle.history.specs.Operators.{OthersRule, ReceivedRule}
use Rattle.history.specs.ErrorStates.{ErrorRule}
use Rattle.history.specs.Replay.{ReplayRule}
use Rattle.history.proofs.Proved.{demand_3, reference_rule}
use Rattle.history.proofs.Cancellation.{cancellation_rule}
use Rattle.history.proofs.PollRule.{poll_rule, first_poll_rule}
use Rattle.history.proofs.Demand1.{refusal_rule, valid_rule}
use Rattle.history.proofs.Operators.{others_rule, received_rule}
use Rattle.history.proofs.ErrorStates.{error_rule}
use Rattle.history.proofs.Replay.{replay_rule}
use Rattle.second_format.specs.Ranged.{ranged_format, small_chip}
use Rattle.second_format.proofs.Lawful.{ranged_lawful}
use Rattle.second_format.proofs.Sayable.{ranged_sayable}

-- demand 1: a call that does not return 0 leaves state and memory as they were, and writes its one error record or nothing
pub ranged_refusal_rule : RefusalRule small_chip ranged_format
ranged_refusal_rule = refusal_rule small_chip ranged_format

-- a sound state leads only to sound ones
pub ranged_valid_rule : ValidRule small_chip ranged_format
ranged_valid_rule = valid_rule small_chip ranged_format ranged_lawful

-- demand 2: which writes are accepted, both ways
pub ranged_write_rule : WriteRule small_chip ranged_format
ranged_write_rule = write_rule small_chip ranged_format

-- demand 2: what a write poll reports
pub ranged_poll_rule : PollRule small_chip ranged_format
ranged_poll_rule = poll_rule small_chip ranged_format ranged_lawful

pub ranged_first_poll_rule : FirstPollRule small_chip ranged_format
ranged_first_poll_rule = first_poll_rule small_chip ranged_format ranged_lawful

pub ranged_cancellation_rule : CancellationRule small_chip ranged_format
ranged_cancellation_rule = cancellation_rule small_chip ranged_format ranged_lawful

-- demand 3: every list of calls, and every first memory
pub ranged_demand_3 : HistoryRule small_chip ranged_format
ranged_demand_3 = demand_3 small_chip ranged_format ranged_lawful (omega arith)

-- beside demand 3: waiting requests and marks are those of the reference modes too
pub ranged_reference_rule : ReferenceRule small_chip ranged_format
ranged_reference_rule = reference_rule small_chip ranged_format ranged_lawful

-- a poll that stops or takes a controller off the bus leaves every object of the other controllers as it was
pub ranged_others_rule : OthersRule small_chip ranged_format
ranged_others_rule = others_rule small_chip ranged_format

-- a received frame survives every poll but the read poll
pub ranged_received_rule : ReceivedRule small_chip ranged_format
ranged_received_rule = received_rule small_chip ranged_format

-- 02, Q-5: error states are answered, and entering passive told, as the calls have made them
pub ranged_error_rule : ErrorRule small_chip ranged_format
ranged_error_rule = error_rule small_chip ranged_format ranged_lawful

-- calls that are handed one sheet, one after the other, leave what the list of them leaves
pub ranged_replay_rule : ReplayRule small_chip ranged_format
ranged_replay_rule = replay_rule small_chip ranged_format

-- 02, Q-2: which member of its pool a write takes, and when it finds none
pub ranged_member_rule : MemberRule small_chip ranged_format
ranged_member_rule = member_rule small_chip ranged_format

pub ranged_busy_rule : BusyRule small_chip ranged_format
ranged_busy_rule = busy_rule small_chip ranged_format

-- 02, Q-2, who sends next: when nobody does, and whose frame goes first
pub ranged_none_rule : NoneRule small_chip ranged_format
ranged_none_rule = none_rule small_chip ranged_format

pub ranged_rank_rule : RankRule small_chip ranged_format
ranged_rank_rule = rank_rule small_chip ranged_format

-- the writer of configurations: what it wrote is read back, no other bytes of a version mean the same, a version says what some bytes of it
-- mean; the writer gives 9 exactly for what it cannot say, 32 for a short buffer, both leaving it as it was, and bytes past its last stay
pub ranged_read_back_rule : ReadBackRule small_chip ranged_format
ranged_read_back_rule = read_back_rule small_chip ranged_format ranged_sayable

pub ranged_only_bytes_rule : OnlyBytesRule small_chip ranged_format
ranged_only_bytes_rule = only_bytes_rule small_chip ranged_format ranged_sayable

pub ranged_say_rule : SayRule small_chip ranged_format
ranged_say_rule = say_rule small_chip ranged_format ranged_sayable

pub ranged_cannot_say_rule : CannotSayRule small_chip ranged_format
ranged_cannot_say_rule = cannot_say_rule small_chip ranged_format ranged_sayable

pub ranged_short_buffer_rule : ShortBufferRule small_chip ranged_format
ranged_short_buffer_rule = short_buffer_rule small_chip ranged_format ranged_sayable

pub ranged_buffer_kept_rule : BufferKeptRule small_chip ranged_format
ranged_buffer_kept_rule = buffer_kept_rule small_chip ranged_format

pub ranged_written_rule : WrittenRule small_chip ranged_format
ranged_written_rule = written_rule small_chip ranged_format ranged_sayable
