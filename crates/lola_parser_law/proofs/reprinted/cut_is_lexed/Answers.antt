use Rattle.lola_parser_law.proofs.Cut.{cut_lexed}
use Rattle.lola_parser_law.proofs.reprinted.cut_is_lexed.Goals as goal

pub returns : goal.returns
returns c = cut_lexed
