-- How a sweep over the controllers goes on, and what a poll asks for.
use Rattle.std.specs.Prelude.{ℕ, ◌+◌, ◌*◌, ◌^◌, ◌≤◌, ◌≡◌, Bool, cond, List, length}
use Rattle.rules.specs.Bytes.{splice}
use Rattle.rules.specs.Notification.{all_words}
use Rattle.rules.specs.Core.{Controller, Core}
use Rattle.rules.specs.Polls.{Boxes, Sweep, Turn, notify, visit_all, closing, after_sweep}
use Rattle.core_layout.specs.Sheet.{words_each}
use Rattle.core_sweeps.specs.Swept.{Lent}

-- what is told in controller c's turn: its objects are closed if it leaves the bus, then it is told of
abbrev pub closed_if : Bool → ℕ → Core → List ℕ → ℕ → Boxes → Boxes
closed_if leaves size core ram c b = cond leaves (visit_all (closing size core.owners ram c) core.object_count b) b

abbrev pub turn_told : Turn → ℕ → Core → List ℕ → ℕ → Controller → Boxes → Boxes
turn_told t size core ram c k b = notify (t.note c k) (closed_if (t.leaves k) size core ram c b)

-- A sweep over the controllers of a core, behind the first `from` notifications, has come to w: the core it leaves, and the whole sheet.
pub record SweptAll (core : Core) (w : Sweep) (from : ℕ) (before after : List ℕ) (next : Core) (told : ℕ) : Type 0 where
  pub core_is : next ≡ after_sweep core w
  pub told_is : told ≡ from + length w.boxes.notifications
  pub sheet_is : after ≡ splice (words_each * from) (all_words w.boxes.notifications) before

-- what a poll over the objects needs once its gate lets it pass: so many places, memory, and room on the sheet for each object in use
pub record ObjectRoom (size objects : ℕ) (core : Core) (ram sheet : List ℕ) : Type 0 where
  pub objects_fit : core.object_count ≤ objects
  pub lent : Lent size core.object_count ram
  pub sheet_fits : words_each * core.object_count ≤ length sheet

-- what a poll over the controllers needs: numbers that fit a word, places, memory, and room for each controller and each object in use
pub record ControllerRoom (size controllers objects : ℕ) (core : Core) (ram sheet : List ℕ) : Type 0 where
  pub numbered : core.controller_count ≤ 2 ^ 32
  pub controllers_fit : core.controller_count ≤ controllers
  pub objects_fit : core.object_count ≤ objects
  pub lent : Lent size core.object_count ram
  pub sheet_fits : words_each * (core.controller_count + core.object_count) ≤ length sheet
