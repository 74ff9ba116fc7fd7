use Rattle.lola_parser.proofs.Sentences.{skims_sentence}
use Rattle.lola_parser.proofs.law.skims_sentences.Goals as goal

pub returns : goal.returns
returns c n u rest x less h stop = skims_sentence n u rest x less h stop
