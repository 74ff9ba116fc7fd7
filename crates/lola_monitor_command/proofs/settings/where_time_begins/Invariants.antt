use Rattle.std.proofs.Common.{◌≡◌, drop}
use Rattle.lola_monitor_command.specs.Command.{start_said}
use Rattle.lola_monitor_command.proofs.settings.where_time_begins.Given as goal

abbrev pub invariant-loop-one : goal.invariant-loop-one
invariant-loop-one l = start_said (drop l.one-index l.said) ≡ start_said l.said
