use Rattle.std.proofs.Common.{[]}
use Rattle.lola_save_read.specs.Turns.{seen_after}
use Rattle.lola_save_read.proofs.InstanceTurns.{instance-read, no-instance, no-panes, no-ring}
use Rattle.lola_save_read.proofs.instances.read_instance.Goals as goal

pub returns-in-None-clause-read : goal.returns-in-None-clause-read
returns-in-None-clause-read c =
    no-instance c.args.times c.args.form.now (seen_after [] c.args.seen.now) c.args.low c.args.bytes.now (rw c.in-None.is at c.in_ok-inst_line.ensures.read)

pub returns-in-None-2-clause-read : goal.returns-in-None-2-clause-read
returns-in-None-2-clause-read c =
    no-ring c.args.times c.args.form.now (seen_after [] c.args.seen.now) c.args.low c.args.bytes.now c.in-Some.born c.in-Some.params c.in-Some.values.now (rw c.in-Some.is at c.in_ok-inst_line.ensures.read) (rw c.in-None-2.is at c.in_ok-ring_line-in-Some.ensures)

pub returns-in-Err-clause-read : goal.returns-in-Err-clause-read
returns-in-Err-clause-read c =
    no-panes c.args.times c.args.form.now (seen_after [] c.args.seen.now) c.args.low c.args.bytes.now c.in-Some.born c.in-Some.params c.in-Some.values.now (rw c.in-Some.is at c.in_ok-inst_line.ensures.read) c.in-Some-2.ring c.in-Some-2.windows.now (rw c.in-Some-2.is at c.in_ok-ring_line-in-Some.ensures) c.in-Err.many (rw c.in-Err.is at c.in_ok-many-in-Some-2.ensures)

pub returns-in-Ok-clause-read : goal.returns-in-Ok-clause-read
returns-in-Ok-clause-read c =
    instance-read c.args.times c.args.form.now (seen_after [] c.args.seen.now) c.args.low c.args.bytes.now c.in-Some.born c.in-Some.params c.in-Some.values.now (rw c.in-Some.is at c.in_ok-inst_line.ensures.read) c.in-Some-2.ring c.in-Some-2.windows.now (rw c.in-Some-2.is at c.in_ok-ring_line-in-Some.ensures) c.in-Ok.panes c.in-Ok.rest.now (rw c.in-Ok.is at c.in_ok-many-in-Some-2.ensures)

pub returns-in-Ok-clause-noted : goal.returns-in-Ok-clause-noted
returns-in-Ok-clause-noted c = rw c.in-Some.is at c.in_ok-inst_line.ensures.noted
