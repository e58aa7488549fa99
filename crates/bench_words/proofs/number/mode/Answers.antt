-- `bench_words::number::mode` meets its contract: the word is spelled as the arm's text.
use Rattle.std.proofs.Common.{rules, ◌≡◌, codes}
use Rattle.std.proofs.lemmas.Slice.Eq.{text_from_reads}
use Rattle.bench_words.specs.Reading.{mode_of}
use Rattle.bench_words.proofs.number.mode.Goals as goal

pub returns-in-STARTED : goal.returns-in-STARTED
unfolding mode_of
returns-in-STARTED c =
    let spelled : c.args.word.now ≡ codes "STARTED" = text_from_reads _ _ (search rules) (search rules) in search rules

pub returns-in-STOPPED : goal.returns-in-STOPPED
unfolding mode_of
returns-in-STOPPED c =
    let spelled : c.args.word.now ≡ codes "STOPPED" = text_from_reads _ _ (search rules) (search rules) in search rules

pub returns-in-SLEEP : goal.returns-in-SLEEP
unfolding mode_of
returns-in-SLEEP c =
    let spelled : c.args.word.now ≡ codes "SLEEP" = text_from_reads _ _ (search rules) (search rules) in search rules
