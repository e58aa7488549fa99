-- A controller that enters passive is the one notification; any other tells nothing.
use Prim.Native.Nat.{ℕ}
use mathlib.Core.Path.{refl, sym, ap₂, ◌∙◌}
use mathlib.Core.List.{[], ◌∷◌}
use Rattle.rules.specs.Notification.{error_passive_indication, sheet_after}
use Rattle.core_layout.proofs.Placed.{put_first}
use Rattle.core_answers.proofs.Laws.{noted_none}
use Rattle.core_events.proofs.counted.report_passive.Goals as goal

pub returns-then-enters_passive : goal.returns-then-enters_passive
returns-then-enters_passive c =
    let a = c.args in
    rw (sym c.enters_passive.ensures ∙ c.if-enters_passive.true)
    (record {
      count_is = refl;
      sheet_is =
          put_first (error_passive_indication a.controller c.capped.result c.capped-then-enters_passive.result) a.sheet.now c.put.ensures
          ∙ ap₂ (λ (x y : ℕ). sheet_after (error_passive_indication a.controller x y ∷ []) a.sheet.now) c.capped.ensures c.capped-then-enters_passive.ensures;
    })

pub returns-else-enters_passive : goal.returns-else-enters_passive
returns-else-enters_passive c = rw (sym c.enters_passive.ensures ∙ c.if-enters_passive.false) (noted_none c.args.sheet.now)
