-- A list of events goes on by one more call.
use Prim.Native.Nat.{ℕ, ◌+◌}
use native.Mathlib.Numerals.{add-one}
use mathlib.Core.Path.{refl, ap, ◌∙◌}
use mathlib.Core.List.{List}
use Rattle.rules.specs.Repeat.{rising}
use Rattle.rules.specs.Can.{can_format}
use Rattle.rules.specs.Chip.{chip}
use Rattle.history.specs.Replay.{Whole, whole, replayed}
use Rattle.can_state.specs.declared.state.State.{State}
use Rattle.can_state.specs.View.{view}
use Rattle.can_step.specs.Stepped.{Stands, Stepped}
use Rattle.can_replay.specs.Replayed.{Events, call_at, made_at}

-- what the first i events leave
abbrev pub played : Events → ℕ → Whole can_format → Whole can_format
played e i w = replayed chip can_format (call_at e) i w

pub plays_begin : (e : Events) (s : State) (ram sheet : List ℕ) → Stands s → Stepped (played e 0 (whole (view s) ram sheet)) s ram sheet
unfolding rising replayed
plays_begin e s ram sheet ready = record { left_is = refl; stands = ready }

pub plays_go_on : (e : Events) (i : ℕ) (w : Whole can_format) {s next : State} {ram sheet ram' sheet' : List ℕ} → Stepped (played e i w) s ram sheet → Stepped (made_at e i (whole (view s) ram sheet)) next ram' sheet'
    → Stepped (played e (i + 1) w) next ram' sheet'
unfolding rising replayed
plays_go_on e i w before step = record { left_is = rw add-one (step.left_is ∙ ap (made_at e i) before.left_is); stands = step.stands }
