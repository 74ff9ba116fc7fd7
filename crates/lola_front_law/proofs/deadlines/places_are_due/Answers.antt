use Rattle.lola_front_law.proofs.PlacesListed.{places_listed}
use Rattle.lola_front_law.proofs.deadlines.places_are_due.Goals as goal

pub returns : goal.returns
returns c = places_listed
