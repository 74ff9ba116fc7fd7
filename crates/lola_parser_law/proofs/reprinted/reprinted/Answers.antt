use Rattle.lola_parser_law.proofs.Round.{reprinted}
use Rattle.lola_parser_law.proofs.reprinted.reprinted.Goals as goal

pub returns : goal.returns
returns c = reprinted
