use Rattle.lola_save_read.proofs.ValueWords.{no-first}
use Rattle.lola_save_read.proofs.value.first_value.Goals as goal

pub returns-in-None : goal.returns-in-None
returns-in-None c = no-first c.args.kind c.args.bytes.now c.cut_word.result.0.now c.cut_word.result.1.now c.requires c.cut_word.ensures c.in-None.ensures
