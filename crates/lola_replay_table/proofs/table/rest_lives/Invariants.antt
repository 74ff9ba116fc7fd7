-- The instances below a place are marked.
use Rattle.std.proofs.Common.{◌≡◌, ◌++◌, ◌-◌, drop, length, take}
use Rattle.lola_replay_table.specs.Resting.{marked_lives}
use Rattle.lola_replay_table.proofs.table.rest_lives.Given as goal

abbrev pub invariant-loop-place : goal.invariant-loop-place
invariant-loop-place l = l.lives ≡ take l.place (marked_lives l.time l.closed l.initial.lives) ++ drop l.place l.initial.lives

abbrev pub decreases-loop-place : goal.decreases-loop-place
decreases-loop-place l = length l.initial.lives - l.place
