use Rattle.std.proofs.Common.{◌≡◌, arith}
use Rattle.lola_parser_expressions.proofs.InwardFormulas.{formula_ends, formula_nested}
use Rattle.lola_parser_expressions.proofs.nested_formulas.+nested_formula.Goals as goal

pub returns-then-depth-eq0 : goal.returns-then-depth-eq0
returns-then-depth-eq0 t c = let none : c.args.depth ≡ 0 = omega arith in formula_ends c.args.depth c.args.parser.now.room c.args.parser.now.rest none

pub returns : goal.returns
returns t c = rw (formula_nested c.args.depth c.args.parser.now.room c.args.parser.now.rest (omega arith)) c.formula_with.ensures
