-- `bench_messages::troubles::usage` meets its contract: the text is that of the command.
use Rattle.bench_messages.proofs.Tables.{usage_found}
use Rattle.bench_messages.proofs.troubles.usage.Goals as goal

pub returns : goal.returns
returns c =
    rw (c.piece.ensures, c.place_of.ensures, usage_found c.args.name) at c.put.ensures
