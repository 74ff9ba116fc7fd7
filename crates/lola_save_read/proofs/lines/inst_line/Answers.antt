use Rattle.std.proofs.Common.{[]}
use Rattle.lola_save_read.specs.Turns.{seen_after}
use Rattle.lola_save_read.proofs.LineKinds.{inst-line, no-inst-line, no-lf-inst}
use Rattle.lola_save_read.proofs.lines.inst_line.Goals as goal

pub returns-in-None-clause-read : goal.returns-in-None-clause-read
returns-in-None-clause-read c =
    no-lf-inst c.args.times c.args.form.now (seen_after [] c.args.seen.now) c.args.low c.args.bytes.now c.in-None.ensures

pub returns-in-None-2-clause-read : goal.returns-in-None-2-clause-read
returns-in-None-2-clause-read c =
    no-inst-line c.args.times c.args.form.now (seen_after [] c.args.seen.now) c.args.low c.args.bytes.now c.in-Some.body.now c.in-Some.rest.now c.in-Some.ensures (rw c.in-None-2.is at c.in_ok-inst_body-in-Some.ensures.read)

pub returns-in-Some-2-clause-read : goal.returns-in-Some-2-clause-read
returns-in-Some-2-clause-read c =
    inst-line c.args.times c.args.form.now (seen_after [] c.args.seen.now) c.args.low c.args.bytes.now c.in-Some.body.now c.in-Some.rest.now c.in-Some.ensures c.in-Some-2.born c.in-Some-2.params (rw c.in-Some-2.is at c.in_ok-inst_body-in-Some.ensures.read)

pub returns-in-Some-2-clause-noted : goal.returns-in-Some-2-clause-noted
returns-in-Some-2-clause-noted c = rw c.in-Some-2.is at c.in_ok-inst_body-in-Some.ensures.noted
