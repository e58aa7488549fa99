-- The places in use and the others are all places.
use Rattle.core_validity.proofs.Parts.{all_errors_parts}
use Rattle.core_validity.proofs.errors.errors_places_valid.Goals as goal

pub returns : goal.returns
returns g c =
    rw (c.errors_suit-suit.ensures, c.errors_rest-rest.ensures, c.limited-end.ensures, c.len.ensures.number, ← c.requires)
    (all_errors_parts (g.E.ErrorList.size c.args.errors.now) c.args.controller_count (g.K.ControllerList.places c.args.controllers.now) (g.E.ErrorList.places c.args.errors.now) c.len.ensures.places)
