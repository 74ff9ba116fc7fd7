use Rattle.std.proofs.Common.{◌≡◌, ◌++◌, drop}
use Rattle.lola_monitor_command.specs.Command.{front_names, behind_names}
use Rattle.lola_monitor_command.proofs.command.take_names.Given as goal

abbrev pub invariant-loop-at : goal.invariant-loop-at
invariant-loop-at l = record { names : l.names ++ front_names (drop l.at l.said) ≡ l.fn.names ++ front_names l.said; rest : behind_names (drop l.at l.said) ≡ behind_names l.said }
