-- `can_frame::settings::within_mask` meets its contract: bits 28 to 0 are the 29 low bits.
-- Assumes nothing.
use Rattle.rules.specs.Can.{identifier_bits}
use Rattle.can_frame.proofs.Mask.{no_stray}
use Rattle.can_frame.proofs.settings.within_mask.Goals as goal

pub returns : goal.returns
returns c = no_stray c.args.code c.args.mask identifier_bits
