use Rattle.lola_parser_law.proofs.Quantities.{quantity_read}
use Rattle.lola_parser_law.proofs.reprinted.quantities_read.Goals as goal

pub returns : goal.returns
returns c = quantity_read
