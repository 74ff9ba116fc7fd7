use Rattle.lola_lexer.proofs.Writing as writing
use Rattle.lola_lexer.proofs.law.written_is_cut.Goals as goal

pub returns : goal.returns
returns c ms all short = (writing.written_is_cut ms all short, writing.texts_are ms)
