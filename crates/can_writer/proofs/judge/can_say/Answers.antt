-- Past the test of version and validity, the records decide.
use mathlib.Core.Path.{◌≡◌, sym, ap₂, ◌∙◌}
use mathlib.Core.Bool.{◌&&◌}
use Rattle.can_config.specs.View.{view_setup}
use Rattle.can_writer.proofs.Laws.{allowed, unsayable, sayable, said_within}
use Rattle.can_writer.proofs.judge.can_say.Goals as goal

pub returns-then-not-known-valid-clause-said : goal.returns-then-not-known-valid-clause-said
returns-then-not-known-valid-clause-said c =
    let given = view_setup c.args.setup.now in
    let tested : (c.known_version-known.result && c.configuration_valid-valid.result) ≡ allowed c.args.version given = ap₂ ◌&&◌ c.known_version-known.ensures c.configuration_valid-valid.ensures.valid in
    unsayable c.args.version given (sym tested ∙ c.if-not-known-valid.true)

pub returns-clause-said : goal.returns-clause-said
returns-clause-said c =
    let given = view_setup c.args.setup.now in
    let places = c.configuration_valid-valid.ensures.places in
    let tested : (c.known_version-known.result && c.configuration_valid-valid.result) ≡ allowed c.args.version given = ap₂ ◌&&◌ c.known_version-known.ensures c.configuration_valid-valid.ensures.valid in
    c.records_say.ensures ∙ sayable c.args.version given places.0 places.1 (sym tested ∙ c.if-not-known-valid.false)

pub returns-clause-within : goal.returns-clause-within
returns-clause-within c = λ t.
    let given = view_setup c.args.setup.now in
    let places = c.configuration_valid-valid.ensures.places in
    let tested : (c.known_version-known.result && c.configuration_valid-valid.result) ≡ allowed c.args.version given = ap₂ ◌&&◌ c.known_version-known.ensures c.configuration_valid-valid.ensures.valid in
    said_within c.args.version given (sym (c.records_say.ensures ∙ sayable c.args.version given places.0 places.1 (sym tested ∙ c.if-not-known-valid.false)) ∙ t)
