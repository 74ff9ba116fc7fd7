use Rattle.lola_save_read.proofs.Spellings.{no-text}
use Rattle.lola_save_read.proofs.quotes.unquote_rest.Goals as goal

pub returns-in-None-first_byte : goal.returns-in-None-first_byte
returns-in-None-first_byte c = no-text c.args.bytes.now c.letters.room c.letters.left.now c.letters.invariant c.in-None.ensures c.in-None-first_byte.ensures
