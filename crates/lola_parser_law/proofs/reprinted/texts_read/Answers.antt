use Rattle.lola_parser_law.proofs.Texts.{text_read}
use Rattle.lola_parser_law.proofs.reprinted.texts_read.Goals as goal

pub returns : goal.returns
returns c = text_read
