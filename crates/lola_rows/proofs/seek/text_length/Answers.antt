use Rattle.std.proofs.Common.{◌-◌, length, arith}
use Rattle.lola_rows.proofs.Seeking.{return-none, return-there, some-bytes}
use Rattle.lola_rows.proofs.seek.text_length.Goals as goal

pub returns-then-line-last-eq13 : goal.returns-then-line-last-eq13
returns-then-line-last-eq13 c =
    let some = some-bytes c.args.line.now c.if-is_empty.ensures in
    return-there c.args.line.now (length c.args.line.now - 1) (omega arith) c.if-line-last-eq13.true

pub returns-else-line-last-eq13 : goal.returns-else-line-last-eq13
returns-else-line-last-eq13 c =
    let some = some-bytes c.args.line.now c.if-is_empty.ensures in
    return-none c.args.line.now (length c.args.line.now - 1) (omega arith) c.if-line-last-eq13.false
