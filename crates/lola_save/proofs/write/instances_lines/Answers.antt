use Rattle.lola_report.proofs.Sequences.{on_err}
use Rattle.lola_save.proofs.LineRows.{instances-done, instances-more, instances-part}
use Rattle.lola_save.proofs.write.instances_lines.Goals as goal

pub returns-in_err-instance_lines-clause-memory : goal.returns-in_err-instance_lines-clause-memory
returns-in_err-instance_lines-clause-memory c =
    on_err _ (instances-part c.args.to.now c.loop-instance.to _ c.args.form.now c.args.instances.now c.loop-instance.instance-index c.instance-item.result _ c.loop-instance-test.true c.instance-item.is c.loop-instance.invariant _ c.in_err-instance_lines.ensures.memory)

pub loop-instance-preserved : goal.loop-instance-preserved
loop-instance-preserved c = instances-more c.args.to.now c.loop-instance.to _ c.args.form.now c.args.instances.now c.loop-instance.instance-index c.instance-item.result _ c.loop-instance-test.true c.instance-item.is c.loop-instance.invariant _ c.in_ok-instance_lines.ensures.ok

pub returns-clause-ok : goal.returns-clause-ok
returns-clause-ok c = instances-done c.args.to.now c.loop-instance.to _ c.args.form.now c.args.instances.now c.loop-instance.instance-index c.loop-instance.invariant c.loop-instance-test.false
