-- What a call leaves, once it is performed.
use Prim.Native.Nat.{ℕ, suc}
use mathlib.Core.Path.{◌≡◌, ap, ap₂, sym, ◌∙◌}
use mathlib.Core.List.{List, [], ◌∷◌}
use native.Mathlib.Omega.{arith}
use lib.ListN.{length}
use Rattle.rules.specs.Notification.{Notification, all_words, sheet_after}
use Rattle.rules.specs.State.{State}
use Rattle.rules.specs.Outcome.{Outcome, Answer}
use Rattle.rules.specs.Can.{can_format}
use Rattle.laws.proofs.Splices.{splice_nil}
use Rattle.core_answers.specs.Performed.{Performed}
use Rattle.history.specs.Replay.{whole, whole_of}

-- a call that is performed leaves what the rules say
pub left_is : {o : Outcome (State can_format)} {reason : ℕ} {answer : Answer} {s : State can_format} {count : ℕ} {ram before after : List ℕ}
    → Performed o reason answer s count ram before after → whole s ram after ≡ whole_of o before
left_is {o} {ram} {after} p = ap₂ (λ (x : State can_format) (m : List ℕ). whole x m after) p.state_is p.ram_is ∙ ap (whole o.state o.ram) p.sheet_is

-- one that tells of nothing leaves any sheet as it was
none_told : (ns : List Notification) → 0 ≡ length ns → (sheet : List ℕ) → sheet ≡ sheet_after ns sheet
unfolding all_words
none_told [] e sheet = sym (splice_nil 0 sheet)
none_told (n ∷ ns) e sheet = absurd (let e' : 0 ≡ suc (length ns) = e in omega arith)

pub left_quiet : {o : Outcome (State can_format)} {reason : ℕ} {answer : Answer} {s : State can_format} {ram : List ℕ} → Performed o reason answer s 0 ram [] [] → (sheet : List ℕ)
    → whole s ram sheet ≡ whole_of o sheet
left_quiet {o} p sheet = ap₂ (λ (x : State can_format) (m : List ℕ). whole x m sheet) p.state_is p.ram_is ∙ ap (whole o.state o.ram) (none_told o.notifications p.count_is sheet)
