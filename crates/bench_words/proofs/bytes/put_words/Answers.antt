use Rattle.std.proofs.Common.{arith, ◌≡◌, ◌+◌, ◌-◌, length, sym, ◌∙◌}
use Rattle.std.proofs.lemmas.Result.{err_from_is_err_and}
use Rattle.bench_words.proofs.Words.{begun, counted, ended, over, troubled, onward, room}
use Rattle.bench_words.proofs.bytes.put_words.Goals as goal

pub loop-init : goal.loop-init
loop-init c = begun c.args.text.now c.args.out.now

pub returns-then-is_empty : goal.returns-then-is_empty
returns-then-is_empty c =
    ended c.args.text.now c.args.out.now c.requires.1 c.loop.invariant c.next_word-span.ensures c.between-word.ensures (omega arith)
    (sym c.is_empty.ensures ∙ c.if-is_empty.true)

pub returns-in_err-bytes : goal.returns-in_err-bytes
returns-in_err-bytes c =
    let passed = err_from_is_err_and c.from_residual.result c.from_residual.ensures.1 in
    rw (passed.1, passed.2)
    (troubled c.args.text.now c.args.out.now c.requires.1 c.loop.invariant c.next_word-span.ensures c.between-word.ensures (omega arith)
    (sym c.is_empty.ensures ∙ c.if-is_empty.false) c.in_err-bytes.ensures)

pub overflow_add-count : goal.overflow_add-count
overflow_add-count c =
    omega (
      arith,
      c.requires,
      counted c.between-word.result.now c.in_ok-bytes.ensures,
      room c.args.text.now c.args.out.now c.requires.1 c.loop.invariant c.next_word-span.ensures c.between-word.ensures,
    )

pub loop-preserved : goal.loop-preserved
loop-preserved c =
    let fewer : length c.args.text.now - c.loop.counter - 1 ≡ length c.args.text.now - (c.loop.counter + 1) = omega arith in
    rw fewer at
    (onward c.args.text.now c.args.out.now c.requires.1 c.loop.invariant c.next_word-span.ensures c.between-word.ensures (omega arith)
    (sym c.is_empty.ensures ∙ c.if-is_empty.false) c.in_ok-bytes.ensures c.put_pairs.ensures)

pub returns : goal.returns
returns c = over c.args.text.now c.args.out.now c.requires.1 c.loop.invariant (omega arith)
