use Rattle.lola_parser_grammar.specs.Grammar.{specification, all_nestings}
use Rattle.lola_parser_grammar.proofs.Fine.{specification_fine}
use Rattle.lola_parser.proofs.Levels.{counted_at}
use Rattle.lola_parser.proofs.Open.{specification_open}
use Rattle.lola_parser.proofs.Place.{deep_in_every}
use Rattle.lola_parser.proofs.law.deep_in_every.Goals as goal

pub returns : goal.returns
returns c n le ts d p rest h l = deep_in_every all_nestings (specification n) (specification_fine n) (counted_at n le) (specification_open n) ts d p rest h l
