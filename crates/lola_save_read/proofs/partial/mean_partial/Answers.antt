use Rattle.lola_save_read.proofs.PartWords.{no-count, no-total}
use Rattle.lola_save_read.proofs.partial.mean_partial.Goals as goal

pub returns-in-None-integer_word : goal.returns-in-None-integer_word
returns-in-None-integer_word c = no-total c.args.word.now c.in-Some.front.now c.in-Some.back.now c.in-Some.ensures c.in-None-integer_word.ensures

pub returns-in-None-number_word : goal.returns-in-None-number_word
returns-in-None-number_word c = no-count c.args.word.now c.in-Some.front.now c.in-Some.back.now c.in-Some.ensures c.in-None-number_word.ensures
