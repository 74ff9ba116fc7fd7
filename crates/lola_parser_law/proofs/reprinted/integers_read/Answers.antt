use Rattle.lola_parser_law.proofs.Numbers.{number_read}
use Rattle.lola_parser_law.proofs.reprinted.integers_read.Goals as goal

pub returns : goal.returns
returns c = number_read
