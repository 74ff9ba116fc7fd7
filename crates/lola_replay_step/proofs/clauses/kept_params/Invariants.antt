-- The parameters so far are kept.
use Rattle.std.proofs.Common.{◌≡◌, map, take}
use Rattle.lola_replay_table.specs.Answers.{the_field}
use Rattle.lola_replay_step.proofs.clauses.kept_params.Given as goal

abbrev pub invariant-loop-param : goal.invariant-loop-param
invariant-loop-param l = l.kept ≡ map the_field (take l.param-index l.params)
