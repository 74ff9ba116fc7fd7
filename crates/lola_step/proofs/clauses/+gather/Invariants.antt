use Rattle.std.proofs.Common.{length}
use Rattle.lola_step.proofs.clauses.+gather.Given as goal

abbrev pub decreases-gather : goal.decreases-gather
decreases-gather g l = length l.exprs.now
