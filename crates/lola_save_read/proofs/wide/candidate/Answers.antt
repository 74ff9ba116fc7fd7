use Rattle.lola_save_read.proofs.WideNumbers.{plain-number, signed-number}
use Rattle.lola_save_read.proofs.wide.candidate.Goals as goal

pub returns-in-None-clause-number : goal.returns-in-None-clause-number
returns-in-None-clause-number c = plain-number c.args.bytes.now c.positive.result c.in-None.ensures c.positive.ensures.number

pub returns-in-Some-clause-number : goal.returns-in-Some-clause-number
returns-in-Some-clause-number c = signed-number c.args.bytes.now c.in-Some.digits.now c.negative.result c.in-Some.ensures c.negative.ensures.number
