use Rattle.std.proofs.Common.{length}
use Rattle.lola_expr.proofs.sought.+params_bound.Given as goal

abbrev pub decreases-params_bound : goal.decreases-params_bound
decreases-params_bound l = length l.bound.now
