-- The places in use and the others are all places.
use Rattle.can_state.proofs.Laws.{settings_parts}
use Rattle.can_state.proofs.settings.settings_places_valid.Goals as goal

pub returns-clause-valid : goal.returns-clause-valid
returns-clause-valid c =
    rw (c.settings_suit-suit.ensures, c.settings_rest-rest.ensures, c.limited-end.ensures, c.len.ensures.number)
    (settings_parts c.args.object_count c.args.owners.now c.args.settings.now c.len.ensures.places)
