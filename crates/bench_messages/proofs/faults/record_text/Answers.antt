-- Each text is that of its rule.
use Rattle.bench_messages.proofs.faults.record_text.Goals as goal

pub returns-in-Controller : goal.returns-in-Controller
returns-in-Controller c = rw c.in-Controller.is

pub returns-in-Kind : goal.returns-in-Kind
returns-in-Kind c = rw c.in-Kind.is

pub returns-in-Payload : goal.returns-in-Payload
returns-in-Payload c = rw c.in-Payload.is

pub returns-in-SendingCode : goal.returns-in-SendingCode
returns-in-SendingCode c = rw c.in-SendingCode.is

pub returns-in-SendingMask : goal.returns-in-SendingMask
returns-in-SendingMask c = rw c.in-SendingMask.is

pub returns-in-Pool : goal.returns-in-Pool
returns-in-Pool c = rw c.in-Pool.is

pub returns-in-ReceivingPadding : goal.returns-in-ReceivingPadding
returns-in-ReceivingPadding c = rw c.in-ReceivingPadding.is

pub returns-in-CodeBits : goal.returns-in-CodeBits
returns-in-CodeBits c = rw c.in-CodeBits.is

pub returns-in-MaskBits : goal.returns-in-MaskBits
returns-in-MaskBits c = rw c.in-MaskBits.is

pub returns-in-StandardCode : goal.returns-in-StandardCode
returns-in-StandardCode c = rw c.in-StandardCode.is

pub returns-in-StandardMask : goal.returns-in-StandardMask
returns-in-StandardMask c = rw c.in-StandardMask.is

pub returns-in-StrayBit : goal.returns-in-StrayBit
returns-in-StrayBit c = rw c.in-StrayBit.is
