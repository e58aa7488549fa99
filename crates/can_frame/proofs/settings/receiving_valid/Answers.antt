-- `can_frame::settings::receiving_valid` meets its contract: each test is the definition's, the last one that of `within_mask`.
-- Assumes nothing.
use Rattle.can_frame.proofs.settings.receiving_valid.Goals as goal

pub returns : goal.returns
returns c = rw c.within_mask.ensures
