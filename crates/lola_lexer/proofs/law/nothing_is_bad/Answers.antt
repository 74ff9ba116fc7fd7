use Rattle.lola_lexer.proofs.Bad as bad
use Rattle.lola_lexer.proofs.law.nothing_is_bad.Goals as goal

pub returns : goal.returns
returns c z = (bad.bad_is_nothing z, bad.nothing_is_bad z)
