use Rattle.lola_parser_law.proofs.Round.{places_free}
use Rattle.lola_parser_law.proofs.reprinted.places_are_free.Goals as goal

pub returns : goal.returns
returns c = places_free
