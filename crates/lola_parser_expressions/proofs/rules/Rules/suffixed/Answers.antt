use Rattle.lola_parser_grammar.specs.Grammar.{reference, suffix, dotted, defaults, expr_in, other_in}
use Rattle.lola_parser_cursor.proofs.Joins.{in_sequence}
use Rattle.lola_parser_expressions.proofs.rules.Rules.suffixed.Goals as goal

pub returns : goal.returns
unfolding suffix
returns g c = rw (in_sequence (reference c.args.name c.args.arguments) (dotted (expr_in c.args.self.now.depth) (other_in c.args.self.now.depth)) (defaults (expr_in c.args.self.now.depth) (other_in c.args.self.now.depth)) c.args.parser.now.room c.args.parser.now.rest c.in_ok-start.start c.dotted.new.parser.room c.dotted.new.parser.rest c.in_ok-start.ensures) c.with_defaults.ensures
