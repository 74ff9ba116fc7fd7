use Rattle.std.proofs.Common.{◌≡◌, ◌-◌}
use Rattle.lola_parser_grammar.specs.Syntax.{read}
use Rattle.lola_parser_grammar.specs.Grammar.{onto, joined, conjunction, or_operators, expr_in, other_in}
use Rattle.lola_parser_cursor.proofs.Joins.{operators_on}
use Rattle.lola_parser_expressions.proofs.rules.Rules.further_disjunctions.Given as goal

abbrev pub invariant-loop-turn : goal.invariant-loop-turn
invariant-loop-turn g l = read (onto l.fn.start (joined or_operators (conjunction (expr_in l.self.depth) (other_in l.self.depth)))) l.fn.parser.room l.fn.parser.rest ≡ operators_on or_operators (conjunction (expr_in l.self.depth) (other_in l.self.depth)) (l._turn-end - l._turn) l.left l.parser.room l.parser.rest
