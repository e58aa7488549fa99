use mathlib.Core.Path.{◌≡◌, refl}
use lib.ListN.{drop, get_or}
use native.Mathlib.Omega.{arith}
use Rattle.std.proofs.lemmas.Grind.{common_steps}
use Rattle.bench_say.specs.Say.{said_of}
use Rattle.bench_say.proofs.Saying.{begun, on_plain, on_hole, on_last, ended}
use Rattle.bench_say.proofs.say.say.Goals as goal

pub loop-byte-init : goal.loop-byte-init
loop-byte-init c = let a = c.args in rw (c.iter-bytes.ensures.rest, c.iter-left.ensures.rest) (begun a.at (said_of a.text.now a.numbers) a.out.now a.text.now a.numbers refl)

pub loop-byte-preserved-then-byte-ne37 : goal.loop-byte-preserved-then-byte-ne37
loop-byte-preserved-then-byte-ne37 c = on_plain _ _ _ c.loop-byte.invariant c.in-Some.ensures.steps c.if-byte-ne37.true c.put-end.ensures

pub loop-byte-preserved-in-Some-next : goal.loop-byte-preserved-in-Some-next
loop-byte-preserved-in-Some-next c =
    let left = c.loop-byte.left.rest.now in
    let number : c.unwrap_or.result ≡ get_or left 0 0 = grind (arith, common_steps) in
    let behind : c.next-in-Some-next.new.self.rest.now ≡ drop 1 left = grind (arith, common_steps) in
    on_hole _ _ _ c.loop-byte.invariant (rw c.in-Some-next.ensures.steps at c.in-Some.ensures.steps) c.if-byte-ne37.false number behind c.formed-end.ensures

pub loop-byte-preserved : goal.loop-byte-preserved
loop-byte-preserved c = rw c.in_default-next.ensures.steps.1 (on_last _ _ _ c.loop-byte.invariant c.in-Some.ensures.steps c.if-byte-ne37.false c.in_default-next.ensures.steps.0)

pub returns : goal.returns
returns c = ended _ _ _ c.loop-byte.invariant c.in_default.ensures.steps.0
