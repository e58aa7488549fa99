-- `bench::input::all` meets its contract: it is safe and ends.
use Rattle.std.proofs.Common.{◌≡◌, length}
use Rattle.bench.proofs.input.all.Given as goal

abbrev pub invariant-loop : goal.invariant-loop
invariant-loop g l =
    (length l.input ≡ length l.initial.input)
    × (length l.line ≡ length l.initial.line)
    × (length l.memory ≡ length l.initial.memory)
    × (length l.sheet ≡ length l.initial.sheet)
