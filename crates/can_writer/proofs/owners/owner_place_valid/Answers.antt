-- Each arm answers with the test of its case.
use borrow.Author.Tests.{lt-ltb, le-ltb}
use Rattle.can_writer.proofs.owners.owner_place_valid.Goals as goal

pub returns-then-h-object_count : goal.returns-then-h-object_count
returns-then-h-object_count c = rw (lt-ltb _ _ c.if-h-object_count.true) c.owner_valid.ensures

pub returns-else-h-object_count : goal.returns-else-h-object_count
returns-else-h-object_count c = rw (le-ltb _ _ c.if-h-object_count.false) c.owner_unused.ensures
