use Rattle.std.proofs.Common.{◌≡◌, ◌-◌, drop, length, map, string_bytes, false}
use Rattle.lola_monitor_command.specs.Said.{said_from, with_front}
use Rattle.lola_monitor_command.proofs.words.all_said.Given as goal

abbrev pub invariant-loop-at : goal.invariant-loop-at
invariant-loop-at l = with_front l.said (said_from false l.at (drop l.at (map string_bytes l.words))) ≡ said_from false l.from (drop l.from (map string_bytes l.words))

abbrev pub decreases-loop-at : goal.decreases-loop-at
decreases-loop-at l = length l.words - l.at
