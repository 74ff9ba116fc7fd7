-- Each expression is recognized.
use Rattle.std.proofs.Common.{◌≡◌, ℕ, ◌-◌, ◌<◌, true, false, List, ◌++◌, length, Some, arith}
use Rattle.lola_parser_grammar.specs.declared.expressions.Expr.{Expr}
use Rattle.lola_parser_grammar.specs.Syntax.{Lexeme, Spells, starts, more, is_fine}
use Rattle.lola_parser_grammar.specs.Nestings.{tallies, guards, nestings_in}
use Rattle.lola_parser_grammar.proofs.Within.{complete_within}
use Rattle.lola_parser_grammar.specs.Grammar.{all_nestings, expr_in, expr_goes_on, whole}
use Rattle.lola_parser_grammar.proofs.Fine.{whole_fine}
use Rattle.lola_parser_grammar.proofs.Depth.{level_tallies, level_deep}
use Rattle.lola_parser.specs.Skims.{skim}
use Rattle.lola_parser.proofs.Skims.{skims_read}
use Rattle.lola_parser.proofs.Deeper.{at_most}

fine : (n : ℕ) → is_fine (expr_in n) ≡ true
unfolding is_fine whole
fine n = whole_fine n

tally : (n : ℕ) → tallies all_nestings (expr_in n) ≡ true
unfolding tallies
tally n = level_tallies true n

guard : (n : ℕ) → guards n (expr_in n) ≡ true
unfolding guards
guard n = level_deep true n n (omega arith)

pub skims_sentence : (n : ℕ) (u rest : List Lexeme) (x : Expr) → length u < n → Spells (expr_in n) u x → starts expr_goes_on rest ≡ false → skim (expr_in n) (u ++ rest) ≡ Some rest
unfolding more
skims_sentence n u rest x less h stop =
    skims_read (expr_in n) (length u) (u ++ rest) x (length u - nestings_in all_nestings u) rest
    (complete_within all_nestings (expr_in n) (fine n) (tally n) n (guard n) (length u) u x rest less h stop (at_most u))
