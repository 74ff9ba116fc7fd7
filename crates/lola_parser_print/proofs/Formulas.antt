-- How each form of a formula is printed.
use Rattle.std.proofs.Common.{◌≡◌, ℕ, ◌∷◌, ◌++◌, refl}
use Rattle.lola_lexer.specs.declared.shape.TokenShape.TheVariants as is
use Rattle.lola_parser_grammar.specs.declared.pacing.Formula.{Formula}
use Rattle.lola_parser_grammar.specs.declared.pacing.Formula.TheVariants as f
use Rattle.lola_parser_grammar.specs.declared.pacing.Formula.TheBlock as X
use Rattle.lola_parser_print.specs.Print.{lex, print_formula, bare_formula}

pub bare_formula-Both : (at : ℕ) (x y : Formula) → bare_formula (f.Both at x y) ≡ print_formula x 1 ++ (lex is.And ∷ print_formula y 2)
unfolding X.shape-the_row-Formula-0 X.hidden-the_row-Formula-0 denote.Hole.Carrier.hidden denote.Hole.Carrier.shown denote.Hole.Carrier.roll denote.Hole.Carrier.out
bare_formula-Both at x y = refl

pub bare_formula-Either : (at : ℕ) (x y : Formula) → bare_formula (f.Either at x y) ≡ print_formula x 0 ++ (lex is.Or ∷ print_formula y 1)
unfolding X.shape-the_row-Formula-0 X.hidden-the_row-Formula-0 denote.Hole.Carrier.hidden denote.Hole.Carrier.shown denote.Hole.Carrier.roll denote.Hole.Carrier.out
bare_formula-Either at x y = refl
