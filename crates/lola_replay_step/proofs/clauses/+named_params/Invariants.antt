use Rattle.std.proofs.Common.{length}
use Rattle.lola_replay_step.proofs.clauses.+named_params.Given as goal

abbrev pub decreases-named_params : goal.decreases-named_params
decreases-named_params l = length l.exprs.now
