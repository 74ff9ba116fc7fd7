use Rattle.lola_parser_expressions.proofs.nested.+nested.Given as goal

abbrev pub decreases-nested : goal.decreases-nested
decreases-nested l = l.depth
