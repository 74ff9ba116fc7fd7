-- What a text that is refused as too deep is cut into.
use Rattle.std.proofs.Common.{◌≡◌, List, ◌∷◌, ◌++◌, Err, arith}
use Rattle.lola_parser_grammar.specs.Syntax.{Lexeme, TooDeep, read_all}
use Rattle.lola_parser_grammar.specs.Grammar.{specification, all_nestings}
use Rattle.lola_parser_grammar.specs.Whole.{most_levels}
use Rattle.lola_parser_grammar.proofs.Fine.{specification_fine}
use Rattle.lola_parser.proofs.Levels.{counted_at}
use Rattle.lola_parser.proofs.Open.{specification_open}
use Rattle.lola_parser.proofs.Placed.{decided_all}

pub deep_parts : (ts d : List Lexeme) → read_all (specification most_levels) ts ≡ Err (TooDeep d) → (u : List Lexeme) × (t : Lexeme) × (w : List Lexeme) × (ts ≡ u ++ t ∷ w) × (d ≡ t ∷ w)
deep_parts ts d h =
    let c = decided_all all_nestings (specification most_levels) (specification_fine most_levels) (counted_at most_levels (omega arith)) (specification_open most_levels) ts d h in
    (c.0, c.1, c.2 ++ c.3, c.4, c.5)
