use Rattle.lola_parser_law.proofs.Unplaced.{not_printed}
use Rattle.lola_parser_law.proofs.reprinted.places_are_not_printed.Goals as goal

pub returns : goal.returns
returns c = not_printed
