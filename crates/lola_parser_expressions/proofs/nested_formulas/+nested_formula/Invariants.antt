use Rattle.lola_parser_expressions.proofs.nested_formulas.+nested_formula.Given as goal

abbrev pub decreases-nested_formula : goal.decreases-nested_formula
decreases-nested_formula l = l.depth
