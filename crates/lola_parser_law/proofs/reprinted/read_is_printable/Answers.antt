use Rattle.lola_parser_law.proofs.Round.{read_printable}
use Rattle.lola_parser_law.proofs.reprinted.read_is_printable.Goals as goal

pub returns : goal.returns
returns c = read_printable
