-- The text stands at the number.
use Rattle.lola_text.proofs.Held.{again}
use Rattle.lola_text.proofs.table.TextTable.intern_again.Goals as goal

pub returns-then-is_text-clause-ok : goal.returns-then-is_text-clause-ok
returns-then-is_text-clause-ok c = again c.args.self.now c.args.bytes.now c.args.before.0 c.is_text.ensures.table (c.is_text.ensures.text c.if-is_text.true)
