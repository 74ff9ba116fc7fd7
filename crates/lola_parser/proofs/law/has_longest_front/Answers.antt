use Rattle.lola_parser_grammar.specs.Grammar.{specification}
use Rattle.lola_parser_grammar.proofs.Fine.{specification_fine}
use Rattle.lola_parser.proofs.Free.{has_front}
use Rattle.lola_parser.proofs.law.has_longest_front.Goals as goal

pub returns : goal.returns
returns c n ts = has_front (specification n) (specification_fine n) ts
