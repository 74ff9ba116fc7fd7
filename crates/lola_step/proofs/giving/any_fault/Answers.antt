use Rattle.std.proofs.Common.{arith}
use Rattle.lola_step.proofs.Faultless.{fault_end}
use Rattle.lola_step.proofs.giving.any_fault.Goals as goal

pub returns : goal.returns
returns c = fault_end c.args.results.now c.loop-outcome.outcome-index c.loop-outcome.faulty (omega arith) c.loop-outcome.invariant
