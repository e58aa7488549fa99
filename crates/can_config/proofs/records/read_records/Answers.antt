use Prim.Native.Nat.{ℕ}
use native.Mathlib.Omega.{arith}
use mathlib.Core.Path.{refl, sym, ◌∙◌}
use mathlib.Core.Bool.{Bool}
use Rattle.rules.specs.Repeat.{all_below, list_below}
use Rattle.rules.specs.Core.{unused_owner}
use Rattle.rules.specs.Configuration.{object_record}
use Rattle.rules.specs.Can.{can_format, unused_settings}
use Rattle.rules.specs.Chip.{chip}
use Rattle.laws.proofs.Repeat.{all_below_more}
use Rattle.can_config.specs.Reading.{record_valid, owner_said, settings_said}
use Rattle.can_config.proofs.Laws.{all_below_fails, fill_more}
use Rattle.can_config.proofs.Judged.{valid_said}
use Rattle.can_config.proofs.records.read_records.Goals as goal

pub loop-h-init : goal.loop-h-init
unfolding all_below list_below
loop-h-init c = record { valid = refl; owners = c.unused-owners.ensures; settings = c.unused-settings.ensures }

pub returns-then-not-record_valid : goal.returns-then-not-record_valid
returns-then-not-record_valid c =
    let a = c.args in
    let read = c.read_record-record.ensures in
    let judged = c.record_valid.ensures ∙ valid_said a.controller_count read in
    let valid : ℕ → Bool = λ h. record_valid a.version h a.controller_count (object_record chip can_format a.bytes.now h) in
    all_below_fails valid c.loop-h.h a.object_count (omega arith) (sym judged ∙ c.if-not-record_valid.true)

pub loop-h-preserved : goal.loop-h-preserved
loop-h-preserved c =
    let at = c.loop-h in
    let a = c.args in
    let read = c.read_record-record.ensures in
    let judged = c.record_valid.ensures ∙ valid_said a.controller_count read in
    let valid : ℕ → Bool = λ h. record_valid a.version h a.controller_count (object_record chip can_format a.bytes.now h) in
    record {
      valid = sym (all_below_more valid at.h (sym at.invariant.valid) (sym c.if-not-record_valid.false ∙ judged));
      owners = c.set.ensures ∙ fill_more chip.objects at.h (owner_said a.bytes.now a.version) unused_owner (omega arith) at.invariant.owners read.owner;
      settings = c.set-in-loop-h.ensures ∙ fill_more chip.objects at.h (settings_said a.bytes.now a.version) unused_settings (omega arith) at.invariant.settings read.settings;
    }
