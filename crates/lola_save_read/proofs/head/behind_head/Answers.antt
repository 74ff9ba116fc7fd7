use Rattle.std.proofs.Common.{arith}
use Rattle.lola_save_read.proofs.HeadLines.{its-head, no-heading, no-second, other-spec}
use Rattle.lola_save_read.proofs.head.behind_head.Goals as goal

pub returns-in-None : goal.returns-in-None
returns-in-None c = no-heading c.args.spec.now c.args.bytes.now c.in-None.ensures

pub returns-in-None-second_line : goal.returns-in-None-second_line
returns-in-None-second_line c =
    no-second c.args.spec.now c.args.bytes.now c.in-Some.second.now (omega arith) c.in-Some.ensures c.in-None-second_line.ensures

pub returns-in-None-behind_spec : goal.returns-in-None-behind_spec
returns-in-None-behind_spec c =
    other-spec c.args.spec.now c.args.bytes.now c.in-Some.second.now c.in-Some-second_line.digits.now c.in-Some-second_line.left.now c.in-Some.ensures c.in-Some-second_line.ensures
    c.in-None-behind_spec.ensures

pub returns-in-Some-behind_spec : goal.returns-in-Some-behind_spec
returns-in-Some-behind_spec c =
    its-head c.args.spec.now c.args.bytes.now c.in-Some.second.now c.in-Some-second_line.digits.now c.in-Some-second_line.left.now c.in-Some-behind_spec.rest.now c.in-Some.ensures c.in-Some-second_line.ensures
    c.in-Some-behind_spec.ensures
