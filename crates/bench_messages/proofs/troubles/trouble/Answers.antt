-- `bench_messages::troubles::trouble` meets its contract: the text is that of the trouble.
use Rattle.bench_messages.proofs.Tables.{trouble_found}
use Rattle.bench_messages.proofs.troubles.trouble.Goals as goal

pub returns : goal.returns
returns c =
    rw (c.piece.ensures, c.place.ensures, trouble_found c.args.trouble) at c.put.ensures
