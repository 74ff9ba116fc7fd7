-- What holds of the grammar of specifications with enough levels.
use Rattle.std.proofs.Common.{◌≡◌, ℕ, suc, ◌≤◌, true, arith}
use Rattle.lola_parser_grammar.specs.Syntax.{max_nestings}
use Rattle.lola_parser_grammar.specs.Nestings.{is_counted}
use Rattle.lola_parser_grammar.specs.Grammar.{specification, all_nestings}
use Rattle.lola_parser_grammar.specs.Whole.{most_levels}
use Rattle.lola_parser_grammar.proofs.Depth.{specification_counted}

more : (n : ℕ) → most_levels ≤ n → suc max_nestings ≤ n
more n le = omega (arith, le)

pub counted_at : (n : ℕ) → most_levels ≤ n → is_counted all_nestings (specification n) ≡ true
counted_at n le = specification_counted n (more n le)
