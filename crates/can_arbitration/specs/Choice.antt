-- The choice of who sends next.
use Rattle.std.specs.Prelude.{ℕ, List}
use Rattle.std.proofs.Math.Option.{Option}
use Rattle.rules.specs.Repeat.{best_below}
use Rattle.rules.specs.Core.{Core}
use Rattle.rules.specs.Events.{competes}
use Rattle.rules.specs.Polls.{object_in}
use Rattle.rules.specs.Can.{priority}
use Rattle.rules.specs.Chip.{chip}

-- the rank of the frame in object h
abbrev pub rank_in : List ℕ → ℕ → ℕ
rank_in ram h = priority (object_in chip.object_size ram h)

-- the best of those that compete
abbrev pub best_waiting : Core → ℕ → List ℕ → Option ℕ
best_waiting core c ram = best_below core.object_count (competes core c) (rank_in ram)
