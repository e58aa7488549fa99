-- Each text is that of its rule.
use Rattle.bench_messages.proofs.faults.pool_text.Goals as goal

pub returns-in-Controller : goal.returns-in-Controller
returns-in-Controller c = rw c.in-Controller.is

pub returns-in-Payload : goal.returns-in-Payload
returns-in-Payload c = rw c.in-Payload.is

pub returns-in-Padding : goal.returns-in-Padding
returns-in-Padding c = rw c.in-Padding.is
