use Rattle.lola_parser_law.proofs.Whole.{factored_of, plain_of}
use Rattle.lola_parser_law.proofs.plain.same_sentences.Goals as goal

pub returns : goal.returns
returns c ts x = (factored_of ts x, plain_of ts x)
