-- Room on the sheet for the development error of a refused service, from the gate on; and the member that takes a write is in use.
use Prim.Native.Nat.{ℕ, ◌≤◌, ◌<◌}
use mathlib.Core.Path.{◌≡◌, refl, sym, ap, ◌∙◌}
use mathlib.Core.Bool.{Bool, true, false, cond}
use mathlib.Core.List.{List, ◌∷◌, ◌++◌}
use native.Mathlib.Omega.{arith}
use lib.ListN.{length}
use lib.Dec.{eqb, ltb}
use borrow.Author.Tests.{eqb-true, ltb-false}
use Rattle.rules.specs.Reason.{Check, ◌if◌, first_reason, ◌then◌, is_development_error, INVALID_STATE, SHEET_TOO_SHORT}
use Rattle.rules.specs.Core.{Controller, Core, controller_at, in_use, free_member}
use Rattle.rules.specs.Services.{write_reason}
use Rattle.laws.proofs.Tests.{clash}
use Rattle.laws.proofs.Pools.{named, taken_member}
use Rattle.laws.proofs.Acceptance.{write_passed}
use Rattle.core_layout.specs.Sheet.{words_each}
use Rattle.core_services.specs.Checks.{in_use_checks, move_checks}
use Rattle.core_services.specs.Room.{Room}

-- a gate that asks for so many words, of which the first notification takes some, finds no development error where there are fewer
pub gate_room : (invalid : Bool) (size : ℕ) (sheet : List ℕ) (cs : List Check) {reason : ℕ} → words_each ≤ size
    → reason ≡ first_reason (INVALID_STATE if invalid ∷ SHEET_TOO_SHORT if ltb (length sheet) size ∷ cs) → Room reason sheet
unfolding first_reason
gate_room invalid size sheet cs enough found =
    record { has_room = λ e. go invalid (ltb (length sheet) size) refl (sym (ap is_development_error found) ∙ e) }
  where
    go : (i b : Bool) → ltb (length sheet) size ≡ b → is_development_error (cond i INVALID_STATE (cond b SHEET_TOO_SHORT (first_reason cs))) ≡ true → words_each ≤ length sheet
    go true b t p = clash p refl
    go false true t p = clash p refl
    go false false t p = omega (arith, ltb-false (length sheet) size t)

-- a gate with room for what it finds has room for what the service finds: with no reason of its own there is room for every one
pub room_then : (gate own : ℕ) {reason : ℕ} {sheet : List ℕ} → Room gate sheet → reason ≡ (gate then own) → Room reason sheet
room_then gate own {sheet = sheet} room found = rw found (go (eqb gate 0) refl)
  where
    go : (b : Bool) → eqb gate 0 ≡ b → Room (cond b own gate) sheet
    go true e = record { has_room = λ p. room.has_room (rw (eqb-true gate 0 e)) }
    go false e = room

-- the member that takes a write is in use
pub taken_in_use : (core : Core) (h frame : ℕ) → write_reason core h frame ≡ 0 → free_member core h < core.object_count
taken_in_use core h frame none = (taken_member core h (named core h (write_passed core h frame none).pool_named)).in_use

-- what is read of a core is the core's own
pub in_use_read : (core : Core) (c : ℕ) {i : Bool} {n : ℕ} → i ≡ core.initialised → n ≡ core.controller_count
    → first_reason (in_use_checks i (ltb c n)) ≡ first_reason (in_use_checks core.initialised (in_use core c))
in_use_read core c begun count = rw (count, begun)

pub set_mode_read : (core : Core) (c asked : ℕ) {i : Bool} {n : ℕ} {k : Controller} → i ≡ core.initialised → n ≡ core.controller_count → k ≡ controller_at core.controllers c
    → first_reason (in_use_checks i (ltb c n) ++ move_checks k asked)
    ≡ first_reason (in_use_checks core.initialised (in_use core c) ++ move_checks (controller_at core.controllers c) asked)
set_mode_read core c asked begun count seen = rw (seen, count, begun)
