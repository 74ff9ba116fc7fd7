use Rattle.std.proofs.Common.{◌∙◌, ap}
use Rattle.lola_step.specs.Found.{add_fault}
use Rattle.lola_step.proofs.Faulty.{least_step}
use Rattle.lola_step.proofs.ends.least_fault.Goals as goal

pub loop-outcome-preserved : goal.loop-outcome-preserved
loop-outcome-preserved c = least_step c.args.results.now c.loop-outcome.outcome-index c.outcome-item.result _ _ c.loop-outcome-test.true (c.with_fault-least.ensures ∙ ap (λ o. add_fault o c.loop-outcome.least) (c.widen.ensures ∙ c.outcome-item.is)) c.loop-outcome.invariant
