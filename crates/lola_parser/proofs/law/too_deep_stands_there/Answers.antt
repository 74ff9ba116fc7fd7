use Rattle.lola_parser_grammar.specs.Grammar.{specification, all_nestings}
use Rattle.lola_parser_grammar.proofs.Fine.{specification_fine}
use Rattle.lola_parser.proofs.Levels.{counted_at}
use Rattle.lola_parser.proofs.Open.{specification_open}
use Rattle.lola_parser.proofs.Place.{deep_stands_there}
use Rattle.lola_parser.proofs.law.too_deep_stands_there.Goals as goal

pub returns : goal.returns
returns c n le ts p rest l u t w e place = deep_stands_there all_nestings (specification n) (specification_fine n) (counted_at n le) (specification_open n) ts p rest l u t w e place
