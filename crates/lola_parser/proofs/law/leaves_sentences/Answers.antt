use Rattle.lola_parser_grammar.specs.Grammar.{expr_in}
use Rattle.lola_parser.proofs.Skims.{leaves}
use Rattle.lola_parser.proofs.law.leaves_sentences.Goals as goal

pub returns : goal.returns
returns c n ts rest h = leaves (expr_in n) ts rest h
