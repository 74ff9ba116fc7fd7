use Rattle.lola_lexer.proofs.Complete.{found_gap, gap_found}
use Rattle.lola_lexer.proofs.law.gap_is_found.Goals as goal

pub returns : goal.returns
returns c z n = (found_gap z n, gap_found z n)
