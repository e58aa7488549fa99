-- What an accepted call passed: its gate, and for a write and for an error count its own checks.
use Prim.Native.Nat.{ℕ, ◌≤◌, ◌<◌}
use mathlib.Core.Path.{◌≡◌, refl}
use mathlib.Core.Bool.{true, false, not}
use mathlib.Core.List.{List, [], ◌∷◌}
use lib.ListN.{length}
use lib.Dec.{eqb}
use borrow.Author.Tests.{eqb-true, ltb-true, ltb-false}
use Rattle.rules.specs.Limits.{Limits, sheet_size, ram_size}
use Rattle.rules.specs.Format.{Format}
use Rattle.rules.specs.Reason.{◌if◌, first_reason, ◌then◌, reasons_named, ERROR_COUNT_TOO_LARGE}
use Rattle.rules.specs.Errors.{within_limit}
use Rattle.rules.specs.Core.{Core, controller_at, mailbox_at, is_started, in_use, controller_of, names_pool, free_member}
use Rattle.rules.specs.State.{State, valid}
use Rattle.rules.specs.Outcome.{state_check, sheet_check, ram_check, full_gate, ram_gate}
use Rattle.rules.specs.Events.{on_bus_checks, errors_counted_reason}
use Rattle.rules.specs.Services.{sending_checks, free_checks, write_reason}
use Rattle.laws.proofs.Tests.{not_false}
use Rattle.laws.proofs.Reasons.{then_first, then_second, check_passed}

pub record GatePassed (L : Limits) (F : Format) (s : State F) (sheet : ℕ) (ram : List ℕ) : Type 0 where
  pub sound : valid L F s ≡ true
  pub sheet_holds : sheet_size L ≤ sheet
  pub ram_whole : length ram ≡ ram_size L

pub gate_passed : (L : Limits) (F : Format) (s : State F) (sheet : ℕ) (ram : List ℕ) → full_gate L F s sheet ram ≡ 0 → GatePassed L F s sheet ram
unfolding full_gate reasons_named
gate_passed L F s sheet ram r =
    let gate = state_check L F s ∷ sheet_check L F sheet ∷ ram_check L F ram ∷ [] in
    record {
      sound = not_false (valid L F s) (check_passed 0 gate refl r);
      sheet_holds = ltb-false sheet (sheet_size L) (check_passed 1 gate refl r);
      ram_whole = eqb-true (length ram) (ram_size L) (not_false (eqb (length ram) (ram_size L)) (check_passed 2 gate refl r));
    }

pub ram_gate_passed : (L : Limits) (F : Format) (s : State F) (ram : List ℕ) → ram_gate L F s ram ≡ 0 → (valid L F s ≡ true) × (length ram ≡ ram_size L)
unfolding ram_gate reasons_named
ram_gate_passed L F s ram r =
    let gate = state_check L F s ∷ ram_check L F ram ∷ [] in
    (not_false (valid L F s) (check_passed 0 gate refl r), eqb-true (length ram) (ram_size L) (not_false (eqb (length ram) (ram_size L)) (check_passed 1 gate refl r)))

-- the tests that a write passes beyond the room for it
pub record WritePassed (core : Core) (h frame : ℕ) : Type 0 where
  pub initialised : core.initialised ≡ true
  pub pool_named : names_pool core h ≡ true
  pub frame_fits : frame ≡ 0
  pub started : is_started (controller_of core h) ≡ true
  pub free : (mailbox_at core.mailboxes (free_member core h)).tx_pending ≡ false

pub write_passed : (core : Core) (h frame : ℕ) → write_reason core h frame ≡ 0 → WritePassed core h frame
unfolding reasons_named
write_passed core h frame r =
    let front = sending_checks core h in
    let back = free_checks core h in
    let r₁ = then_first (first_reason front) (frame then first_reason back) r in
    let r₂ = then_second (first_reason front) (frame then first_reason back) r in
    let r₃ = then_second frame (first_reason back) r₂ in
    record {
      initialised = not_false core.initialised (check_passed 0 front refl r₁);
      pool_named = not_false (names_pool core h) (check_passed 1 front refl r₁);
      frame_fits = then_first frame (first_reason back) r₂;
      started = not_false (is_started (controller_of core h)) (check_passed 0 back refl r₃);
      free = check_passed 1 back refl r₃;
    }

-- what an error count passes beyond its gate
pub record CountPassed (core : Core) (c tx rx : ℕ) : Type 0 where
  pub used : c < core.controller_count
  pub started : is_started (controller_at core.controllers c) ≡ true
  pub unmarked : (controller_at core.controllers c).bus_off ≡ false
  pub limited : within_limit tx rx ≡ true

pub counted_passed : (core : Core) (c tx rx : ℕ) → errors_counted_reason core c tx rx ≡ 0 → CountPassed core c tx rx
unfolding reasons_named
counted_passed core c tx rx r =
    let front = on_bus_checks core c in
    let back = ERROR_COUNT_TOO_LARGE if not (within_limit tx rx) ∷ [] in
    let r₁ = then_first (first_reason front) (first_reason back) r in
    record {
      used = ltb-true c core.controller_count (not_false (in_use core c) (check_passed 1 front refl r₁));
      started = not_false (is_started (controller_at core.controllers c)) (check_passed 2 front refl r₁);
      unmarked = check_passed 3 front refl r₁;
      limited = not_false (within_limit tx rx) (check_passed 0 back refl (then_second (first_reason front) (first_reason back) r));
    }
