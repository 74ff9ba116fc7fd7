use Rattle.std.proofs.Common.{◌≡◌, ◌-◌}
use Rattle.lola_lexer.specs.declared.shape.TokenShape.TheVariants as is
use Rattle.lola_parser_grammar.specs.Syntax.{read, Then}
use Rattle.lola_parser_grammar.specs.Grammar.{onto, nesting, conjunctions_of, both, atom, formula_in}
use Rattle.lola_parser_cursor.proofs.Joins.{goes_on}
use Rattle.lola_parser_expressions.proofs.formulas.FormulaRules.conjunctions.Given as goal

abbrev pub invariant-loop-turn : goal.invariant-loop-turn
invariant-loop-turn g l = read (onto l.fn.start (conjunctions_of (formula_in l.self.depth))) l.fn.parser.room l.fn.parser.rest ≡ goes_on both (Then (nesting is.And) (atom (formula_in l.self.depth))) (l._turn-end - l._turn) l.left l.parser.room l.parser.rest
