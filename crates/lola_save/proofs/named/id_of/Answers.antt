use Rattle.std.proofs.Common.{arith}
use Rattle.lola_save.proofs.Naming.{text-more, text-there}
use Rattle.lola_save.proofs.named.id_of.Goals as goal

pub returns-clause-there : goal.returns-clause-there
returns-clause-there c = text-there c.args.bytes.now c.in_ok-id.id.0 c.args.texts.now c.intern.new.self c.requires c.in_ok-id.ensures.ok

pub returns-clause-more : goal.returns-clause-more
returns-clause-more c = text-more c.args.bytes.now c.in_ok-id.id.0 c.args.texts.now c.intern.new.self c.requires c.in_ok-id.ensures.table c.in_ok-id.ensures.ok (omega arith)
