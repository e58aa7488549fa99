-- The theorems for this chip and for classic and FD frames, demand by demand.
use native.Mathlib.Omega.{arith}
use Rattle.rules.specs.Can.{can_format}
use Rattle.rules.specs.Chip.{chip}
use Rattle.laws.specs.WriteRule.{CanWriteRule, MemberRule, BusyRule}
use Rattle.laws.specs.WriterRule.{ReadBackRule, OnlyBytesRule, SayRule, CannotSayRule, ShortBufferRule, BufferKeptRule, WrittenRule, AcceptedRule}
use Rattle.laws.specs.NextRule.{AskedRule, NoneRule, CanNextRule, UnchangedRule}
use Rattle.laws.proofs.WriteRule.{can_write_rule, member_rule, busy_rule}
use Rattle.laws.proofs.WriterRule.{read_back_rule, only_bytes_rule, say_rule, cannot_say_rule, short_buffer_rule, buffer_kept_rule, written_rule}
use Rattle.laws.proofs.CanWriter.{can_sayable, accepted_rule}
use Rattle.laws.proofs.NextRule.{asked_rule, none_rule, can_next_rule, unchanged_rule}
use Rattle.history.specs.Claim.{HistoryRule, ReferenceRule}
use Rattle.history.specs.Cancellation.{CancellationRule}
use Rattle.history.specs.PollRule.{PollRule, FirstPollRule}
use Rattle.history.specs.Demand1.{RefusalRule, ValidRule}
use Rattle.history.specs.Operators.{OthersRule, ReceivedRule}
use Rattle.history.specs.ErrorStates.{ErrorRule}
use Rattle.history.specs.Replay.{ReplayRule}
use Rattle.history.proofs.Proved.{demand_3, reference_rule}
use Rattle.history.proofs.Cancellation.{cancellation_rule}
use Rattle.history.proofs.PollRule.{poll_rule, first_poll_rule}
use Rattle.history.proofs.Demand1.{refusal_rule, valid_rule}
use Rattle.history.proofs.Operators.{others_rule, received_rule}
use Rattle.history.proofs.ErrorStates.{error_rule}
use Rattle.history.proofs.Replay.{replay_rule}
use Rattle.can_layout.proofs.Lawful.{can_lawful}

-- demand 1: a call that does not return 0 leaves state and memory as they were, and writes its one error record or nothing
pub chip_refusal_rule : RefusalRule chip can_format
chip_refusal_rule = refusal_rule chip can_format

-- "A sound state leads only to sound states."
pub chip_valid_rule : ValidRule chip can_format
chip_valid_rule = valid_rule chip can_format can_lawful

-- demand 2: which writes are accepted, both ways. Every accepted write had a sound state, and sheet and memory of the required size.
pub chip_write_rule : CanWriteRule chip
chip_write_rule = can_write_rule chip

-- demand 2: what a write poll reports
pub chip_poll_rule : PollRule chip can_format
chip_poll_rule = poll_rule chip can_format can_lawful

-- demand 3: every list of calls, and every first memory
pub chip_demand_3 : HistoryRule chip can_format
chip_demand_3 = demand_3 chip can_format can_lawful (omega arith)

-- beside demand 3: waiting requests and marks are those of the reference modes too
pub chip_reference_rule : ReferenceRule chip can_format
chip_reference_rule = reference_rule chip can_format can_lawful

-- 02, Q-4, beside demand 3: a frame whose sent event was accepted is never cancelled, and one that is cancelled was never sent
pub chip_cancellation_rule : CancellationRule chip can_format
chip_cancellation_rule = cancellation_rule chip can_format can_lawful

-- 02, Q-4, beside demand 2: the first poll that closes an object whose frame was sent confirms it, a stop or bus-off poll too
pub chip_first_poll_rule : FirstPollRule chip can_format
chip_first_poll_rule = first_poll_rule chip can_format can_lawful

-- a poll that stops or takes a controller off the bus leaves every object of the other controllers as it was
pub chip_others_rule : OthersRule chip can_format
chip_others_rule = others_rule chip can_format

-- a received frame survives every poll but the read poll
pub chip_received_rule : ReceivedRule chip can_format
chip_received_rule = received_rule chip can_format

-- 02, Q-5: a controller that went off the bus answers bus-off until it is STARTED again, and entering passive is told exactly once
pub chip_error_rule : ErrorRule chip can_format
chip_error_rule = error_rule chip can_format can_lawful

-- calls that are handed one sheet, one after the other, leave what the list of them leaves
pub chip_replay_rule : ReplayRule chip can_format
chip_replay_rule = replay_rule chip can_format

-- 02, Q-2: which member of its pool a write takes, and when it finds none
pub chip_member_rule : MemberRule chip can_format
chip_member_rule = member_rule chip can_format

pub chip_busy_rule : BusyRule chip can_format
chip_busy_rule = busy_rule chip can_format

-- 02, Q-2, who sends next: when it is answered, when with "none", and whose frame goes first, each both ways; and it changes nothing
pub chip_asked_rule : AskedRule chip can_format
chip_asked_rule = asked_rule chip can_format

pub chip_none_rule : NoneRule chip can_format
chip_none_rule = none_rule chip can_format

pub chip_next_rule : CanNextRule chip
chip_next_rule = can_next_rule chip

pub chip_unchanged_rule : UnchangedRule chip can_format
chip_unchanged_rule = unchanged_rule chip can_format

-- the writer of configurations: what it wrote is read back as the same version and configuration
pub chip_read_back_rule : ReadBackRule chip can_format
chip_read_back_rule = read_back_rule chip can_format can_sayable

-- no other bytes of a version mean the same
pub chip_only_bytes_rule : OnlyBytesRule chip can_format
chip_only_bytes_rule = only_bytes_rule chip can_format can_sayable

-- a version says exactly what some bytes of it mean
pub chip_say_rule : SayRule chip can_format
chip_say_rule = say_rule chip can_format can_sayable

-- the writer gives 9 exactly for what its version cannot say
pub chip_cannot_say_rule : CannotSayRule chip can_format
chip_cannot_say_rule = cannot_say_rule chip can_format can_sayable

-- then 32 for a short buffer
pub chip_short_buffer_rule : ShortBufferRule chip can_format
chip_short_buffer_rule = short_buffer_rule chip can_format can_sayable

-- a refusal leaves the buffer as it was
pub chip_buffer_kept_rule : BufferKeptRule chip can_format
chip_buffer_kept_rule = buffer_kept_rule chip can_format

-- a buffer that was written to begins with what says the configuration, and is as it was behind it
pub chip_written_rule : WrittenRule chip can_format
chip_written_rule = written_rule chip can_format can_sayable

-- a valid configuration is one that Init accepts: what some accepted bytes mean, and no other is
pub chip_accepted_rule : AcceptedRule chip
chip_accepted_rule = accepted_rule chip (omega arith) (omega arith)
