use Rattle.lola_parser_law.proofs.Cut.{printed_cut}
use Rattle.lola_parser_law.proofs.reprinted.printed_is_cut.Goals as goal

pub returns : goal.returns
returns c = printed_cut
