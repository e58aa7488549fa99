-- A poll behind its gate.
use Prim.Native.Nat.{ℕ}
use mathlib.Core.Path.{◌≡◌, refl, sym}
use mathlib.Core.Bool.{false}
use mathlib.Core.List.{List}
use native.Mathlib.Omega.{arith}
use lib.ListN.{length}
use lib.Dec.{eqb}
use Rattle.rules.specs.Notification.{Notification, sheet_after}
use Rattle.rules.specs.Reason.{return_code}
use Rattle.rules.specs.Errors.{Errors}
use Rattle.rules.specs.Core.{Mailbox, Core, with_mailboxes, with_errors}
use Rattle.rules.specs.Outcome.{no_answer, judged}
use Rattle.rules.specs.Polls.{Visit, Turn, polled, visit_all, turn_all, errors_all, objects_polled, controllers_polled}
use Rattle.laws.proofs.Sheets.{sheet_none}
use Rattle.core_answers.specs.Performed.{Performed}
use Rattle.core_sweeps.specs.Swept.{Swept, boxes_from}
use Rattle.core_polls.specs.Swept.{SweptAll}

module _ (gate : ℕ) (core : Core) (ram : List ℕ) where
  -- the gate lets it pass: this core, and these notifications
  pub polled_passed : (next : Core) (notes : List Notification) {state : Core} {count : ℕ} {before after : List ℕ} → gate ≡ 0 → state ≡ next → count ≡ length notes → after ≡ sheet_after notes before
      → Performed (polled gate core ram next notes) gate no_answer state count ram before after
  unfolding judged return_code
  polled_passed next notes e s n a = rw e (record { code_is = refl; reason_is = refl; answer_is = refl; state_is = s; count_is = n; ram_is = refl; sheet_is = a })

  -- the gate refuses it: all stays as it was
  pub polled_refused : (next : Core) (notes : List Notification) {state : Core} {before : List ℕ} → eqb gate 0 ≡ false → state ≡ core → Performed (polled gate core ram next notes) gate no_answer state 0 ram before before
  unfolding judged
  polled_refused next notes {state} {before} e s =
      rw e (record { code_is = refl; reason_is = refl; answer_is = refl; state_is = s; count_is = refl; ram_is = refl; sheet_is = sym (sheet_none before) })

  pub objects_passed : (v : Visit) {next : Core} {ms : List Mailbox} {count : ℕ} {before after : List ℕ} → gate ≡ 0 → next ≡ with_mailboxes core ms
      → Swept (visit_all v core.object_count (boxes_from core.mailboxes)) 0 before after ms count → Performed (objects_polled gate v core ram) gate no_answer next count ram before after
  objects_passed v e rest s = polled_passed _ _ e (rw (rest, s.mailboxes_are)) (let n = s.told_is in omega arith) s.sheet_is

  pub controllers_passed : (size : ℕ) (t : Turn) {errors : Core} {next : Core} {es : List Errors} {count : ℕ} {before after : List ℕ} → gate ≡ 0
      → errors ≡ with_errors core es → es ≡ errors_all t core.controller_count core.controllers core.errors → SweptAll errors (turn_all size t errors ram) 0 before after next count
      → Performed (controllers_polled gate size t core ram) gate no_answer next count ram before after
  unfolding turn_all
  controllers_passed size t {errors} {next} {es} {count} {before} {after} e rest passed s =
      let swept = rw (rest, passed) at s in polled_passed _ _ e swept.core_is (let n = swept.told_is in omega arith) swept.sheet_is
