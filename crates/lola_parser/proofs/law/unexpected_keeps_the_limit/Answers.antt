use Rattle.lola_parser_grammar.specs.Grammar.{specification, all_nestings}
use Rattle.lola_parser_grammar.proofs.Fine.{specification_fine}
use Rattle.lola_parser.proofs.Levels.{counted_at}
use Rattle.lola_parser.proofs.Answered.{unexpected_keeps}
use Rattle.lola_parser.proofs.law.unexpected_keeps_the_limit.Goals as goal

pub returns : goal.returns
returns c n le ts rest h = unexpected_keeps all_nestings (specification n) (specification_fine n) (counted_at n le) ts rest h
