-- The first so far, and of what is left.
use Rattle.std.proofs.Common.{◌≡◌, None, Some, drop}
use Rattle.lola_model.specs.NextStep.{local_rates}
use Rattle.lola_replay_step.specs.Dues.{due_of_lives}
use Rattle.lola_replay_step.proofs.due.of_lives.Given as goal

abbrev pub invariant-loop-life : goal.invariant-loop-life
invariant-loop-life l = due_of_lives (local_rates (Some l.clauses)) l.from l.best (drop l.life-index l.lives) ≡ due_of_lives (local_rates (Some l.clauses)) l.from None l.lives
