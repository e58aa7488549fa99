-- `can_frame::table::past_the_table` meets its contract: a length that is none of those in the table is past its end. Assumes nothing.
use Rattle.can_frame.specs.Table.{entries}
use Rattle.can_frame.proofs.Entries.{not_below, past_the_table}
use Rattle.can_frame.proofs.table.past_the_table.Goals as goal

pub returns : goal.returns
returns c = past_the_table (not_below entries c.requires)
