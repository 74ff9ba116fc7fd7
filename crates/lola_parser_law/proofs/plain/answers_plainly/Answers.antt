use Rattle.lola_parser_law.proofs.Whole.{reads_plainly, refuses_plainly}
use Rattle.lola_parser_law.proofs.plain.answers_plainly.Goals as goal

pub returns : goal.returns
returns c ts end r = (refuses_plainly ts end r, reads_plainly ts r)
