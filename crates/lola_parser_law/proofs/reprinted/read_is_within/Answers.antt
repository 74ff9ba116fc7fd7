use Rattle.lola_parser_law.proofs.Round.{within}
use Rattle.lola_parser_law.proofs.reprinted.read_is_within.Goals as goal

pub returns : goal.returns
returns c = within
