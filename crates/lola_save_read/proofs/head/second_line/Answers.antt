use Rattle.std.proofs.Common.{sym, ◌∙◌}
use Rattle.lola_save_read.proofs.FirstLf.{no-number, no-second-line, second-there}
use Rattle.lola_save_read.proofs.head.second_line.Goals as goal

pub returns-else-is_number : goal.returns-else-is_number
returns-else-is_number c = λ digits left.
    no-number c.args.bytes.now c.in-Some.digits.now c.in-Some.left.now digits left c.in-Some.ensures (sym c.is_number.ensures ∙ c.if-is_number.false)

pub returns-then-is_number : goal.returns-then-is_number
returns-then-is_number c = second-there c.args.bytes.now c.in-Some.digits.now c.in-Some.left.now c.in-Some.ensures (sym c.is_number.ensures ∙ c.if-is_number.true)

pub returns-in-None : goal.returns-in-None
returns-in-None c = λ digits left. no-second-line c.args.bytes.now digits left c.in-None.ensures
