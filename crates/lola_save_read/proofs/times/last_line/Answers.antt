use Rattle.std.proofs.Common.{sym, ◌∙◌}
use Rattle.lola_save_read.proofs.ReadTimes.{last-no-line, last-no-order}
use Rattle.lola_save_read.proofs.times.last_line.Goals as goal

pub returns-in-None : goal.returns-in-None
returns-in-None c = last-no-line c.args.start c.args.bytes.now c.in-None.ensures

pub returns-then-is_last : goal.returns-then-is_last
returns-then-is_last c = record { order = sym c.is_last.ensures ∙ c.if-is_last.true; written = c.in-Some.ensures.written }

pub returns-else-is_last : goal.returns-else-is_last
returns-else-is_last c = last-no-order c.args.start c.args.bytes.now c.in-Some.rest.now c.in-Some.last c.in-Some.ensures (sym c.is_last.ensures ∙ c.if-is_last.false)
