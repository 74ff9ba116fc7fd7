use Rattle.std.proofs.Common.{◌≡◌, ◌-◌}
use Rattle.lola_parser_grammar.specs.Syntax.{read}
use Rattle.lola_parser_grammar.specs.Grammar.{added, further, expr_in}
use Rattle.lola_parser_cursor.proofs.Joins.{goes_on, snoc}
use Rattle.lola_parser_expressions.proofs.rules.Rules.more_arguments.Given as goal

abbrev pub invariant-loop-turn : goal.invariant-loop-turn
invariant-loop-turn g l = read (added l.fn.front (further (expr_in l.self.depth))) l.fn.parser.room l.fn.parser.rest ≡ goes_on snoc (further (expr_in l.self.depth)) (l._turn-end - l._turn) l.all l.parser.room l.parser.rest
