-- None of those so far has these parameters.
use Rattle.std.proofs.Common.{◌≡◌, drop, map}
use Rattle.lola_replay_table.specs.Answers.{the_field}
use Rattle.lola_replay_table.specs.Tries.{found}
use Rattle.lola_replay_table.proofs.read.found.Given as goal

abbrev pub invariant-loop-place : goal.invariant-loop-place
invariant-loop-place l = found (map the_field l.params) l.place (drop l.place l.lives) ≡ found (map the_field l.params) 0 l.lives
