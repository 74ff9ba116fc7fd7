use Rattle.std.proofs.Common.{rules}
use Rattle.lola_parser_grammar.specs.Syntax.{same_shape}
use Rattle.lola_parser.proofs.cursor.same.Goals as goal

pub returns : goal.returns
unfolding same_shape
returns c = search rules
