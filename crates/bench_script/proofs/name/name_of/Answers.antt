-- `bench_script::name::name_of` meets its contract: the word is spelled as the arm's text. The check finds the arms of three bytes, and the last one.
use Rattle.std.proofs.Common.{rules, ◌≡◌, codes}
use Rattle.std.proofs.lemmas.Slice.Eq.{text_from_reads}
use Rattle.bench_script.specs.Name.{name_of}
use Rattle.bench_script.proofs.name.name_of.Goals as goal

pub returns-in-write : goal.returns-in-write
unfolding name_of
returns-in-write c = let spelled : c.args.word.now ≡ codes "write" = text_from_reads _ _ (search rules) (search rules) in search rules

pub returns-in-sheet : goal.returns-in-sheet
unfolding name_of
returns-in-sheet c = let spelled : c.args.word.now ≡ codes "sheet" = text_from_reads _ _ (search rules) (search rules) in search rules

pub returns-in-state : goal.returns-in-state
unfolding name_of
returns-in-state c = let spelled : c.args.word.now ≡ codes "state" = text_from_reads _ _ (search rules) (search rules) in search rules

pub returns-in-deinit : goal.returns-in-deinit
unfolding name_of
returns-in-deinit c = let spelled : c.args.word.now ≡ codes "deinit" = text_from_reads _ _ (search rules) (search rules) in search rules

pub returns-in-busoff : goal.returns-in-busoff
unfolding name_of
returns-in-busoff c = let spelled : c.args.word.now ≡ codes "busoff" = text_from_reads _ _ (search rules) (search rules) in search rules

pub returns-in-errors : goal.returns-in-errors
unfolding name_of
returns-in-errors c = let spelled : c.args.word.now ≡ codes "errors" = text_from_reads _ _ (search rules) (search rules) in search rules

pub returns-in-memory : goal.returns-in-memory
unfolding name_of
returns-in-memory c = let spelled : c.args.word.now ≡ codes "memory" = text_from_reads _ _ (search rules) (search rules) in search rules

pub returns-in-config : goal.returns-in-config
unfolding name_of
returns-in-config c = let spelled : c.args.word.now ≡ codes "config" = text_from_reads _ _ (search rules) (search rules) in search rules

pub returns-in-object : goal.returns-in-object
unfolding name_of
returns-in-object c = let spelled : c.args.word.now ≡ codes "object" = text_from_reads _ _ (search rules) (search rules) in search rules

pub returns-in-arrived : goal.returns-in-arrived
unfolding name_of
returns-in-arrived c = let spelled : c.args.word.now ≡ codes "arrived" = text_from_reads _ _ (search rules) (search rules) in search rules

pub returns-in-rxerrors : goal.returns-in-rxerrors
unfolding name_of
returns-in-rxerrors c = let spelled : c.args.word.now ≡ codes "rxerrors" = text_from_reads _ _ (search rules) (search rules) in search rules

pub returns-in-txerrors : goal.returns-in-txerrors
unfolding name_of
returns-in-txerrors c = let spelled : c.args.word.now ≡ codes "txerrors" = text_from_reads _ _ (search rules) (search rules) in search rules

pub returns-in-errorstate : goal.returns-in-errorstate
unfolding name_of
returns-in-errorstate c = let spelled : c.args.word.now ≡ codes "errorstate" = text_from_reads _ _ (search rules) (search rules) in search rules

pub returns-in-controllers : goal.returns-in-controllers
unfolding name_of
returns-in-controllers c = let spelled : c.args.word.now ≡ codes "controllers" = text_from_reads _ _ (search rules) (search rules) in search rules

pub returns-in-init : goal.returns-in-init
unfolding name_of
returns-in-init c = let spelled : c.args.word.now ≡ codes "init" = text_from_reads _ _ (search rules) (search rules) in search rules

pub returns-in-poll : goal.returns-in-poll
unfolding name_of
returns-in-poll c = let spelled : c.args.word.now ≡ codes "poll" = text_from_reads _ _ (search rules) (search rules) in search rules

pub returns-in-sent : goal.returns-in-sent
unfolding name_of
returns-in-sent c = let spelled : c.args.word.now ≡ codes "sent" = text_from_reads _ _ (search rules) (search rules) in search rules

pub returns-in-show : goal.returns-in-show
unfolding name_of
returns-in-show c = let spelled : c.args.word.now ≡ codes "show" = text_from_reads _ _ (search rules) (search rules) in search rules

pub returns-in-next : goal.returns-in-next
unfolding name_of
returns-in-next c = let spelled : c.args.word.now ≡ codes "next" = text_from_reads _ _ (search rules) (search rules) in search rules

pub returns-in-data : goal.returns-in-data
unfolding name_of
returns-in-data c = let spelled : c.args.word.now ≡ codes "data" = text_from_reads _ _ (search rules) (search rules) in search rules
