-- One call on a lent state: what it leaves.
use Prim.Native.Nat.{ℕ, ◌≤◌}
use mathlib.Core.Path.{◌≡◌, ap, sym, ◌∙◌}
use mathlib.Core.List.{List}
use mathlib.Core.Logic.{◌⊎◌, inl, inr}
use native.Mathlib.Decide.{ℕ_discrete}
use lib.ListN.{get_or-eq_default}
use Rattle.rules.specs.State as rules
use Rattle.rules.specs.Can.{can_format}
use Rattle.rules.specs.Chip.{chip}
use Rattle.history.specs.Call.{Call, performed}
use Rattle.history.proofs.Demand1.{valid_rule}
use Rattle.can_layout.proofs.Lawful.{can_lawful}
use Rattle.can_state.specs.declared.state.State.{State}
use Rattle.can_state.specs.View.{view}
use Rattle.history.specs.Replay.{Whole, whole, whole_of}
use Rattle.can_step.specs.Stepped.{Stands, Stepped}
use Rattle.can_step.specs.Called.{kinds, call_of}

-- 11 is an arrival too
pub beyond : {kind : ℕ} → ((kind ≡ 11 → ⊥) → 16 ≤ kind) → (kind ≡ 11) ⊎ (16 ≤ kind)
beyond {kind} rest = go (ℕ_discrete kind 11)
  where
    go : Dec (kind ≡ 11) → (kind ≡ 11) ⊎ (16 ≤ kind)
    go (yes e) = inl e
    go (no n11) = inr (rest n11)

-- the event, the state before it, and the memory
module _ (sheet : List ℕ) (place value handle : ℕ) (bytes : List ℕ) (s : State) (ram : List ℕ) (ready : Stands s) where
  abbrev by : Call can_format → Whole can_format
  by call = whole_of (performed chip can_format call (view s) ram) sheet

  -- a call that leaves what the rules say leaves a valid state
  stepped : (call : Call can_format) {next : State} {ram' sheet' : List ℕ} → whole (view next) ram' sheet' ≡ by call → Stepped (by call) next ram' sheet'
  stepped call e =
      record { left_is = e; stands = ap (λ (w : Whole can_format). rules.valid chip can_format w.state) e ∙ valid_rule chip can_format can_lawful call (view s) ram ready }

  abbrev call : ℕ → Call can_format
  call kind = call_of sheet place value handle bytes kind

  -- the kind has a number of its own
  pub made_by : {kind : ℕ} (k : ℕ) → kind ≡ k → {next : State} {ram' sheet' : List ℕ} → whole (view next) ram' sheet' ≡ by (call k) → Stepped (by (call kind)) next ram' sheet'
  made_by {kind} k e left_is = stepped (call kind) (left_is ∙ ap (λ (i : ℕ). by (call i)) (sym e))

  -- or has none
  pub made_otherwise : {kind : ℕ} → (kind ≡ 11) ⊎ (16 ≤ kind) → {next : State} {ram' sheet' : List ℕ} → whole (view next) ram' sheet' ≡ by (call 11) → Stepped (by (call kind)) next ram' sheet'
  made_otherwise (inl e) left_is = made_by 11 e left_is
  made_otherwise {kind} (inr beyond_all) left_is = stepped (call kind) (left_is ∙ ap by (sym (get_or-eq_default (kinds sheet place value handle bytes) _ beyond_all)))
