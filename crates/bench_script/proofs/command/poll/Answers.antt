-- `bench_script::command::poll` meets its contract: the word is spelled as the arm's text. The check finds the arms of shorter texts.
use Rattle.std.proofs.Common.{rules, ◌≡◌, codes}
use Rattle.std.proofs.lemmas.Slice.Eq.{text_from_reads}
use Rattle.bench_script.specs.Command.{poll_of}
use Rattle.bench_script.proofs.command.poll.Goals as goal

pub returns-in-busoff : goal.returns-in-busoff
unfolding poll_of
returns-in-busoff c = let spelled : c.args.word.now ≡ codes "busoff" = text_from_reads _ _ (search rules) (search rules) in search rules

pub returns-in-write : goal.returns-in-write
unfolding poll_of
returns-in-write c = let spelled : c.args.word.now ≡ codes "write" = text_from_reads _ _ (search rules) (search rules) in search rules
