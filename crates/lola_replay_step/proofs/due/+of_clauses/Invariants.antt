-- Clause after clause.
use Rattle.std.proofs.Common.{length}
use Rattle.lola_replay_step.proofs.due.+of_clauses.Given as goal

abbrev pub decreases-of_clauses : goal.decreases-of_clauses
decreases-of_clauses l = length l.clauses.now
