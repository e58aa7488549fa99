-- What the driver's calls share: the gate is the rules', what it lets pass, and a call on the core seen on the state.
use Prim.Native.Nat.{ℕ, ◌≤◌}
use mathlib.Core.Path.{◌≡◌, refl, ap, ◌∙◌}
use mathlib.Core.Bool.{Bool, true, not}
use mathlib.Core.List.{List, [], ◌∷◌}
use lib.ListN.{length}
use lib.Dec.{eqb, ltb}
use borrow.Author.Tests.{ltb-false}
use Rattle.rules.specs.Limits.{sheet_size, ram_size}
use Rattle.rules.specs.Reason.{◌if◌, first_reason, reasons_named, INVALID_STATE, SHEET_TOO_SHORT, WRONG_RAM_SIZE}
use Rattle.rules.specs.Core.{Core}
use Rattle.rules.specs.State as rules
use Rattle.rules.specs.Outcome.{Outcome, Answer, lifted, state_check, sheet_check, state_gate, sheet_gate, full_gate, ram_gate}
use Rattle.rules.specs.Can.{can_format}
use Rattle.rules.specs.Chip.{chip}
use Rattle.laws.proofs.Tests.{not_false}
use Rattle.laws.proofs.Reasons.{check_passed}
use Rattle.laws.proofs.Validity.{core_facts, state_core}
use Rattle.laws.proofs.Changes.{controllers_within, objects_within}
use Rattle.laws.proofs.Acceptance.{gate_passed, ram_gate_passed}
use Rattle.core_answers.specs.Performed.{Performed}
use Rattle.can_state.specs.declared.state.State.{State}
use Rattle.can_state.specs.View.{view}

-- the code's gates, once the test of the state is the rules'
module _ (s : State) {valid : Bool} (test : valid ≡ rules.valid chip can_format (view s)) {r : ℕ} where
  pub state_gate_is : r ≡ first_reason (INVALID_STATE if not valid ∷ []) → r ≡ state_gate chip can_format (view s)
  unfolding state_gate
  state_gate_is e = e ∙ rw test

  pub sheet_gate_is : (sheet : ℕ) → r ≡ first_reason (INVALID_STATE if not valid ∷ SHEET_TOO_SHORT if ltb sheet (sheet_size chip) ∷ []) → r ≡ sheet_gate chip can_format (view s) sheet
  unfolding sheet_gate
  sheet_gate_is sheet e = e ∙ rw test

  pub full_gate_is : (sheet : ℕ) (ram : List ℕ)
      → r ≡ first_reason (INVALID_STATE if not valid ∷ SHEET_TOO_SHORT if ltb sheet (sheet_size chip) ∷ WRONG_RAM_SIZE if not (eqb (length ram) (ram_size chip)) ∷ [])
      → r ≡ full_gate chip can_format (view s) sheet ram
  unfolding full_gate
  full_gate_is sheet ram e = e ∙ rw test

  pub ram_gate_is : (ram : List ℕ) → r ≡ first_reason (INVALID_STATE if not valid ∷ WRONG_RAM_SIZE if not (eqb (length ram) (ram_size chip)) ∷ []) → r ≡ ram_gate chip can_format (view s) ram
  unfolding ram_gate
  ram_gate_is ram e = e ∙ rw test

-- a valid state has no more in use than there are places
pub record Within (s : State) : Type 0 where
  pub controllers : s.core.controller_count ≤ chip.controllers
  pub objects : s.core.object_count ≤ chip.objects

pub within : (s : State) → rules.valid chip can_format (view s) ≡ true → Within s
within s v =
    let core = core_facts chip (view s).core (state_core chip can_format (view s) v) in
    record { controllers = controllers_within chip (view s).core core; objects = objects_within chip (view s).core core }

pub state_passed : (s : State) → state_gate chip can_format (view s) ≡ 0 → Within s
unfolding state_gate reasons_named
state_passed s e = within s (not_false (rules.valid chip can_format (view s)) (check_passed 0 (state_check chip can_format (view s) ∷ []) refl e))

pub sheet_passed : (s : State) (sheet : ℕ) → sheet_gate chip can_format (view s) sheet ≡ 0 → Within s
unfolding sheet_gate reasons_named
sheet_passed s sheet e =
    within s (not_false (rules.valid chip can_format (view s)) (check_passed 0 (state_check chip can_format (view s) ∷ sheet_check chip can_format sheet ∷ []) refl e))

-- and its sheet has the required size
pub sheet_room : (s : State) (sheet : ℕ) → sheet_gate chip can_format (view s) sheet ≡ 0 → sheet_size chip ≤ sheet
unfolding sheet_gate reasons_named
sheet_room s sheet e = ltb-false sheet (sheet_size chip) (check_passed 1 (state_check chip can_format (view s) ∷ sheet_check chip can_format sheet ∷ []) refl e)

-- and a call with sheet and memory has room besides
pub record Passed (s : State) (sheet : ℕ) (ram : List ℕ) : Type 0 where
  pub places : Within s
  pub sheet_holds : sheet_size chip ≤ sheet
  pub ram_whole : length ram ≡ ram_size chip

pub passed : (s : State) (sheet : ℕ) (ram : List ℕ) → full_gate chip can_format (view s) sheet ram ≡ 0 → Passed s sheet ram
passed s sheet ram e =
    let gate = gate_passed chip can_format (view s) sheet ram e in
    record { places = within s gate.sound; sheet_holds = gate.sheet_holds; ram_whole = gate.ram_whole }

pub ram_passed : (s : State) (ram : List ℕ) → ram_gate chip can_format (view s) ram ≡ 0 → Within s × (length ram ≡ ram_size chip)
ram_passed s ram e = let gate = ram_gate_passed chip can_format (view s) ram e in (within s gate.0, gate.1)

-- a call on the core, with the settings as they were
pub lifted_performed : (s : rules.State can_format) {o : Outcome Core} {reason : ℕ} {answer : Answer} {core : Core} {count : ℕ} {ram before after : List ℕ}
    → Performed o reason answer core count ram before after → Performed (lifted s o) reason answer (rules.with_core s core) count ram before after
lifted_performed s p =
    record {
      code_is = p.code_is;
      reason_is = p.reason_is;
      answer_is = p.answer_is;
      state_is = ap (λ (core : Core). rules.with_core s core) p.state_is;
      count_is = p.count_is;
      ram_is = p.ram_is;
      sheet_is = p.sheet_is;
    }
