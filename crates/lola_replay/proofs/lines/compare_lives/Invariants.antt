-- What is compared so far, and what is left.
use Rattle.std.proofs.Common.{◌≡◌, ◌≤◌, ◌+◌, drop, length}
use Rattle.lola_replay_step.specs.Rests.{life_lines}
use Rattle.lola_replay.specs.Comparing.{after_lines, comparison}
use Rattle.lola_replay.proofs.lines.compare_lives.Given as goal

abbrev pub invariant-loop-life : goal.invariant-loop-life
invariant-loop-life l = record {
  lines : after_lines (comparison l.after) (life_lines l.show l.time l.stream (drop l.life-index l.lives)) ≡ after_lines (comparison l.initial.after) (life_lines l.show l.time l.stream l.lives);
  room : l.after.lines + length l.after.rest.now ≤ l.initial.after.lines + length l.initial.after.rest.now;
}
