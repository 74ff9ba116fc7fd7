use Rattle.lola_monitor.proofs.Drilled.{are_workers}
use Rattle.lola_monitor.proofs.drilling.drill_workers.Goals as goal

pub returns : goal.returns
returns c =
    are_workers c.args.plan.now c.args.command.now c.in_ok-workers.workers.items c.push_reserved.new.self.items c.push_reserved-2.new.self.items c.in_ok-drill_worker.field-0 c.in_ok-drill_worker-2.field-0
    c.in_ok-workers.ensures.items c.push_reserved.ensures.items c.push_reserved-2.ensures.items c.in_ok-drill_worker.ensures c.in_ok-drill_worker-2.ensures
