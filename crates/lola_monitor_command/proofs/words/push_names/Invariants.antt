use Rattle.std.proofs.Common.{◌≡◌, ◌++◌, drop, map, string_bytes}
use Rattle.lola_monitor_command.specs.Said.{names_from}
use Rattle.lola_monitor_command.proofs.words.push_names.Given as goal

abbrev pub invariant-loop-at : goal.invariant-loop-at
invariant-loop-at l = l.said ++ names_from l.at (drop l.at (map string_bytes l.words)) ≡ l.fn.said ++ names_from l.from (drop l.from (map string_bytes l.words))
