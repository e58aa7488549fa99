-- Each text is that of its rule.
use Rattle.bench_messages.proofs.faults.outline_text.Goals as goal

pub returns-in-Mark : goal.returns-in-Mark
returns-in-Mark c = rw c.in-Mark.is

pub returns-in-Version : goal.returns-in-Version
returns-in-Version c = rw c.in-Version.is

pub returns-in-Controllers : goal.returns-in-Controllers
returns-in-Controllers c = rw c.in-Controllers.is

pub returns-in-Objects : goal.returns-in-Objects
returns-in-Objects c = rw c.in-Objects.is

pub returns-in-ZeroByte : goal.returns-in-ZeroByte
returns-in-ZeroByte c = rw c.in-ZeroByte.is

pub returns-in-Size : goal.returns-in-Size
returns-in-Size c = rw c.in-Size.is
