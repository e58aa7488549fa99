-- `bench_script::object::object` meets its contract: the word is spelled as the arm's text. The check finds the arm of the shorter text.
use Rattle.std.proofs.Common.{rules, ◌≡◌, codes}
use Rattle.std.proofs.lemmas.Slice.Eq.{text_from_reads}
use Rattle.bench_script.specs.Object.{object_of}
use Rattle.bench_script.proofs.object.object.Goals as goal

pub returns-in-receive : goal.returns-in-receive
unfolding object_of
returns-in-receive c =
    let spelled : c.first.result.now ≡ codes "receive" = text_from_reads _ _ (search rules) (search rules) in
    let named = rw c.first.ensures at spelled in
    rw (c.receive.ensures, c.after-rest.ensures, named)
