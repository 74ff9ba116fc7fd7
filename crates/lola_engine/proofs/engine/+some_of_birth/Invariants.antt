-- There are fewer clauses in each call.
use Rattle.std.proofs.Common.{length}
use Rattle.lola_engine.proofs.engine.+some_of_birth.Given as goal

abbrev pub decreases-some_of_birth : goal.decreases-some_of_birth
decreases-some_of_birth l = length l.pacings.now
