use Rattle.std.proofs.Common.{◌≡◌, ◌-◌}
use Rattle.lola_lexer.specs.declared.shape.TokenShape.TheVariants as is
use Rattle.lola_parser_grammar.specs.Syntax.{read, Then}
use Rattle.lola_parser_grammar.specs.Grammar.{onto, nesting, alternatives_of, either, conjunct, formula_in}
use Rattle.lola_parser_cursor.proofs.Joins.{goes_on}
use Rattle.lola_parser_expressions.proofs.formulas.FormulaRules.alternatives.Given as goal

abbrev pub invariant-loop-turn : goal.invariant-loop-turn
invariant-loop-turn g l = read (onto l.fn.start (alternatives_of (formula_in l.self.depth))) l.fn.parser.room l.fn.parser.rest ≡ goes_on either (Then (nesting is.Or) (conjunct (formula_in l.self.depth))) (l._turn-end - l._turn) l.left l.parser.room l.parser.rest
