use Rattle.lola_parser_grammar.specs.Grammar.{specification, all_nestings}
use Rattle.lola_parser_grammar.proofs.Fine.{specification_fine}
use Rattle.lola_parser.proofs.Levels.{counted_at}
use Rattle.lola_parser.proofs.Answered.{late_is_deep}
use Rattle.lola_parser.proofs.law.deep_is_refused.Goals as goal

pub returns : goal.returns
returns c n le ts p rest l u t w e late = late_is_deep all_nestings (specification n) (specification_fine n) (counted_at n le) ts p rest l u t w e late
