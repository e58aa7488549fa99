use Rattle.std.proofs.Common.{◌∙◌}
use Rattle.bench_words.proofs.Digits.{next, too_large, whole}
use Rattle.bench_words.proofs.digit.value.Goals as goal

pub loop-b-preserved : goal.loop-b-preserved
loop-b-preserved c = next c.args.base c.args.word.now c.loop-b.invariant c.loop-b-test.true c.digit.ensures.value c.in_ok-value.ensures

pub returns-in_err-value : goal.returns-in_err-value
returns-in_err-value c = c.from_residual.ensures ∙ too_large c.args.base c.args.word.now c.loop-b.invariant c.loop-b-test.true c.digit.ensures.value c.in_err-value.ensures

pub returns : goal.returns
returns c = whole c.args.base c.args.word.now c.loop-b.invariant c.loop-b-test.false
