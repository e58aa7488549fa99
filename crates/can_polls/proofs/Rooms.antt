-- What a poll is handed of a state that its gate let pass: places, memory, and a sheet with room.
use Prim.Native.Nat.{ℕ}
use mathlib.Core.List.{List}
use native.Mathlib.Omega.{arith}
use lib.ListN.{length}
use Rattle.rules.specs.Chip.{chip}
use Rattle.core_places.specs.View.{view_core}
use Rattle.core_sweeps.specs.Swept.{Lent}
use Rattle.core_polls.specs.Swept.{ObjectRoom, ControllerRoom}
use Rattle.can_state.specs.declared.state.State.{State}
use Rattle.can_state.proofs.Gates.{Passed}

module _ (s : State) where
  lent : {sheet : ℕ} {ram : List ℕ} → Passed s sheet ram → Lent chip.object_size s.core.object_count ram
  lent p = let few = p.places.objects in let whole = p.ram_whole in record { numbered = omega arith; head_fits = omega arith; objects_fit = omega arith }

  pub room : {ram sheet : List ℕ} → Passed s (length sheet) ram → ObjectRoom chip.object_size chip.objects (view_core s.core) ram sheet
  room p = let few = p.places.objects in let long = p.sheet_holds in record { objects_fit = few; lent = lent p; sheet_fits = omega arith }

  pub room_for_all : {ram sheet : List ℕ} → Passed s (length sheet) ram → ControllerRoom chip.object_size chip.controllers chip.objects (view_core s.core) ram sheet
  room_for_all p =
      let few = p.places.objects in
      let fewer = p.places.controllers in
      let long = p.sheet_holds in
      record { numbered = omega arith; controllers_fit = fewer; objects_fit = few; lent = lent p; sheet_fits = omega arith }
