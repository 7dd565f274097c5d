use Rattle.token_rules.proofs.FirstPlaces as places
use Rattle.token_rules.proofs.nesting.first_by_place.Goals as goal

pub returns : goal.returns
returns c = places.first_by_place
