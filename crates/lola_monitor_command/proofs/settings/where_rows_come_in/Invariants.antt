use Rattle.std.proofs.Common.{◌≡◌, drop}
use Rattle.lola_monitor_command.specs.Command.{intake_said}
use Rattle.lola_monitor_command.proofs.settings.where_rows_come_in.Given as goal

abbrev pub invariant-loop-one : goal.invariant-loop-one
invariant-loop-one l = intake_said (drop l.one-index l.said) ≡ intake_said l.said
