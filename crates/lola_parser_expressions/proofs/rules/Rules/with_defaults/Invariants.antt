use Rattle.std.proofs.Common.{◌≡◌, ◌-◌}
use Rattle.lola_parser_grammar.specs.Syntax.{read}
use Rattle.lola_parser_grammar.specs.Grammar.{onto, defaults, dotted_default, with_default, expr_in, other_in}
use Rattle.lola_parser_cursor.proofs.Joins.{goes_on}
use Rattle.lola_parser_expressions.proofs.rules.Rules.with_defaults.Given as goal

abbrev pub invariant-loop-turn : goal.invariant-loop-turn
invariant-loop-turn g l = read (onto l.fn.start (defaults (expr_in l.self.depth) (other_in l.self.depth))) l.fn.parser.room l.fn.parser.rest ≡ goes_on with_default (dotted_default (expr_in l.self.depth) (other_in l.self.depth)) (l._turn-end - l._turn) l.left l.parser.room l.parser.rest
