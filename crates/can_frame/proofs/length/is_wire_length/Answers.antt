-- `can_frame::length::is_wire_length` meets its contract: the branch goes by `is_fd`, and the wire length is `on_wire`'s, as in the definition.
-- Assumes nothing.
use Rattle.can_frame.proofs.length.is_wire_length.Goals as goal

pub returns-then-is_fd : goal.returns-then-is_fd
returns-then-is_fd c = rw (← c.is_fd.ensures, c.if-is_fd.true, c.on_wire.ensures.0)

pub returns-else-is_fd : goal.returns-else-is_fd
returns-else-is_fd c = rw (← c.is_fd.ensures, c.if-is_fd.false)
