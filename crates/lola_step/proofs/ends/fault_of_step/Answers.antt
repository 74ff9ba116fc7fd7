use Rattle.std.proofs.Common.{subst}
use Rattle.lola_step.specs.Ends.{FindsFault}
use Rattle.lola_step.proofs.Faultless.{none_first}
use Rattle.lola_step.proofs.Faulty.{finds_fault}
use Rattle.lola_step.proofs.ends.fault_of_step.Goals as goal

pub returns-else-is_faulty : goal.returns-else-is_faulty
returns-else-is_faulty c tasks =
    let faultless = c.requires.faultless c.if-is_faulty.false in
    subst (FindsFault c.args.plan.now c.args.spawn_results.now c.args.spans.now tasks c.args.results.now)
    (none_first c.args.results.now 0 c.args.spawn_results.now c.args.spans.now faultless.0 faultless.1)
    (finds_fault c.args.plan.now c.requires.accepted c.args.spawn_results.now c.args.spans.now tasks c.args.results.now c.requires.spawn_results c.requires.spans)
