-- Each turn of the loop goes on by a byte of the text, or by a % and its sign.
use Rattle.bench_say.specs.Say.{said_of}
use Rattle.bench_say.proofs.Saying.{Saying}
use Rattle.bench_say.proofs.say.say.Given as goal

abbrev pub invariant-loop-byte : goal.invariant-loop-byte
invariant-loop-byte l = Saying l.at (said_of l.text l.fn.numbers) l.initial.out l.out l.end l.bytes.rest.now l.left.rest.now
