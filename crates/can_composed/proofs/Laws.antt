-- SetControllerMode takes no memory: it leaves it, and does the same whatever it is. A poll leaves the memory as well.
use Prim.Native.Nat.{ℕ}
use mathlib.Core.Path.{◌≡◌, refl, ap, sym, ◌∙◌}
use mathlib.Core.List.{List, []}
use lib.Dec.{eqb}
use Rattle.rules.specs.Limits.{Limits}
use Rattle.rules.specs.Format.{Format}
use Rattle.rules.specs.Reason.{first_reason, ◌then◌}
use Rattle.rules.specs.Core.{Core}
use Rattle.rules.specs.State.{State, with_core, initial_state}
use Rattle.rules.specs.Outcome.{Outcome, judged, sheet_gate}
use Rattle.rules.specs.Services as services
use Rattle.rules.specs.Services.{set_controller_mode_checks}
use Rattle.rules.specs.Polls as polls
use Rattle.rules.specs.Calls.{init, set_controller_mode, write, main_function_mode}
use Rattle.laws.proofs.Tests.{cond_map}
use Rattle.laws.proofs.Reasons.{judged_either}

module _ (L : Limits) (F : Format) (s : State F) (sheet c asked : ℕ) where
  pub set_keeps_ram : (ram : List ℕ) → (set_controller_mode L F s sheet ram c asked).ram ≡ ram
  unfolding set_controller_mode services.set_controller_mode
  set_keeps_ram ram = judged_either (λ (o : Outcome Core). o.ram ≡ ram) _ _ _ refl (λ r. refl)

  pub set_any_ram : (ram other : List ℕ) → (set_controller_mode L F s sheet ram c asked).state ≡ (set_controller_mode L F s sheet other c asked).state
  unfolding set_controller_mode services.set_controller_mode judged
  set_any_ram ram other =
      let t = eqb (sheet_gate L F s sheet then first_reason (set_controller_mode_checks s.core c asked)) 0 in
      ap (λ (core : Core). with_core s core) (cond_map (λ (o : Outcome Core). o.state) t _ _ ∙ sym (cond_map (λ (o : Outcome Core). o.state) t _ _))

pub poll_keeps_ram : (L : Limits) (F : Format) (s : State F) (sheet : ℕ) (ram : List ℕ) → (main_function_mode L F s sheet ram).ram ≡ ram
unfolding main_function_mode polls.main_function_mode
poll_keeps_ram L F s sheet ram = judged_either (λ (o : Outcome Core). o.ram ≡ ram) _ _ _ refl (λ r. refl)

-- Init, SetControllerMode, a mode poll and Write in a row, from what each of them says of its own state and memory
module _ (L : Limits) (F : Format) (n₀ n₁ n₂ n₃ c asked h handle : ℕ) (frame : F.Frame) (bytes ram₀ ram₁ ram₄ : List ℕ) (s₀ s₁ s₂ s₃ s₄ : State F)
    (e₀ : s₀ ≡ initial_state L F) (l₁ : n₁ ≡ n₀) (l₂ : n₂ ≡ n₀) (l₃ : n₃ ≡ n₀)
    (e₁ : s₁ ≡ (init L F s₀ n₀ ram₀ bytes).state) (r₁ : ram₁ ≡ (init L F s₀ n₀ ram₀ bytes).ram)
    (e₂ : s₂ ≡ (set_controller_mode L F s₁ n₁ [] c asked).state)
    (e₃ : s₃ ≡ (main_function_mode L F s₂ n₂ ram₁).state) where
  abbrev after_init : Outcome (State F)
  after_init = init L F (initial_state L F) n₀ ram₀ bytes

  abbrev after_set : Outcome (State F)
  after_set = set_controller_mode L F after_init.state n₀ after_init.ram c asked

  abbrev after_mode : Outcome (State F)
  after_mode = main_function_mode L F after_set.state n₀ after_set.ram

  init_state : after_init.state ≡ s₁
  init_state = ap (λ (s : State F). (init L F s n₀ ram₀ bytes).state) (sym e₀) ∙ sym e₁

  init_ram : after_init.ram ≡ ram₁
  init_ram = ap (λ (s : State F). (init L F s n₀ ram₀ bytes).ram) (sym e₀) ∙ sym r₁

  set_state : after_set.state ≡ s₂
  set_state =
      set_any_ram L F after_init.state n₀ c asked after_init.ram []
      ∙ ap (λ (s : State F). (set_controller_mode L F s n₀ [] c asked).state) init_state
      ∙ ap (λ (n : ℕ). (set_controller_mode L F s₁ n [] c asked).state) (sym l₁) ∙ sym e₂

  set_ram : after_set.ram ≡ ram₁
  set_ram = set_keeps_ram L F after_init.state n₀ c asked after_init.ram ∙ init_ram

  pub mode_state : after_mode.state ≡ s₃
  mode_state =
      ap (λ (s : State F). (main_function_mode L F s n₀ after_set.ram).state) set_state
      ∙ ap (λ (ram : List ℕ). (main_function_mode L F s₂ n₀ ram).state) set_ram
      ∙ ap (λ (n : ℕ). (main_function_mode L F s₂ n ram₁).state) (sym l₂) ∙ sym e₃

  pub mode_ram : after_mode.ram ≡ ram₁
  mode_ram = poll_keeps_ram L F after_set.state n₀ after_set.ram ∙ set_ram

  -- the write is the one of the list
  pub same_write : write L F s₃ n₃ ram₁ h handle frame ≡ write L F after_mode.state n₀ after_mode.ram h handle frame
  same_write =
      ap (λ (n : ℕ). write L F s₃ n ram₁ h handle frame) l₃
      ∙ ap (λ (s : State F). write L F s n₀ ram₁ h handle frame) (sym mode_state)
      ∙ ap (λ (ram : List ℕ). write L F after_mode.state n₀ ram h handle frame) (sym mode_ram)
