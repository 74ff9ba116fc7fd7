use Rattle.lola_lexer.proofs.TheLongest.{found_longest, longest_found}
use Rattle.lola_lexer.proofs.law.longest_is_found.Goals as goal

pub returns : goal.returns
returns c z s n = (found_longest z s n, longest_found z s n)
