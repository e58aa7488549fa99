-- The objects passed have their own pools.
use mathlib.Core.Path.{◌≡◌}
use Rattle.rules.specs.Repeat.{rising}
use Rattle.bench_draft.specs.Draft.{with_own_pool}
use Rattle.bench_draft.proofs.draft.put_own_pools.Given as goal

abbrev pub invariant-loop-h : goal.invariant-loop-h
invariant-loop-h l = l.draft ≡ rising l.h with_own_pool l.initial.draft
