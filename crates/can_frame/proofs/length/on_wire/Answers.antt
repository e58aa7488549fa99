-- `can_frame::length::on_wire` meets its contract: the two bytes of the table's entry are the rule's wire length and DLC code.
-- Assumes nothing.
use Rattle.can_frame.proofs.Entries.{table_rule}
use Rattle.can_frame.proofs.length.on_wire.Goals as goal

pub returns : goal.returns
returns c = rw c.wire_entry-entry.ensures (table_rule c.args.length)
