-- A state that the code has is of the chip's size. A proof has what is asked here in what it knows of a parameter: `c.well_formed.0`, if the
-- state comes first.
use Prim.Native.Nat.{ℕ}
use mathlib.Core.Path.{◌≡◌, sym, ◌∙◌}
use mathlib.Core.List.{List, map}
use lib.ListN.{length, length-map}
use denote.Laws.{Is}
use mir.Val.{Val}
use Rattle.can_state.specs.declared.state.State.{State}
use Rattle.can_state.specs.Sizes.{Sized}
use Rattle.can_state.specs.contracts.state.State.{the_row}

pub length_of_map : {A B : Type 0} (f : A → B) (l : List A) (n : ℕ) → length (map f l) ≡ n → length l ≡ n
length_of_map f l n e = sym (length-map l f) ∙ e

pub sizes : (s : State) (v : List Val) → Is the_row s v → Sized s
sizes s v known =
    record {
      core_is =
          record {
            controllers_are = search length_of_map;
            errors_are = search length_of_map;
            owners_are = search length_of_map;
            mailboxes_are = let mailboxes = known.0.1.1.0.0.1.1.1.1.1.1.1 in search length_of_map;
          };
      settings_are = search length_of_map;
    }
