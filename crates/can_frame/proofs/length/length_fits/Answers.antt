-- `can_frame::length::length_fits` meets its contract: the branch goes by `is_fd`, as the definition does.
-- Assumes nothing.
use Rattle.can_frame.proofs.length.length_fits.Goals as goal

pub returns-then-is_fd : goal.returns-then-is_fd
returns-then-is_fd c = rw (← c.is_fd.ensures, c.if-is_fd.true)

pub returns-else-is_fd : goal.returns-else-is_fd
returns-else-is_fd c = rw (← c.is_fd.ensures, c.if-is_fd.false)
