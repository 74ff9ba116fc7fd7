-- What is compared so far, and what is left.
use Rattle.std.proofs.Common.{◌≡◌, ◌≤◌, ◌+◌, drop, length}
use Rattle.lola_replay_step.specs.Rests.{known_lines}
use Rattle.lola_replay.specs.Comparing.{after_lines, comparison}
use Rattle.lola_replay.proofs.lines.compare_streams.Given as goal

abbrev pub invariant-loop-number : goal.invariant-loop-number
invariant-loop-number l = record {
  lines : after_lines (comparison l.after) (known_lines l.show l.time (drop l.number l.streams) (drop l.number l.known)) ≡ after_lines (comparison l.initial.after) (known_lines l.show l.time l.streams l.known);
  room : l.after.lines + length l.after.rest.now ≤ l.initial.after.lines + length l.initial.after.rest.now;
}
