use Rattle.std.proofs.Common.{◌≡◌, drop}
use Rattle.lola_monitor_command.specs.Command.{workers_said}
use Rattle.lola_monitor_command.proofs.settings.how_many_workers.Given as goal

abbrev pub invariant-loop-one : goal.invariant-loop-one
invariant-loop-one l = workers_said (drop l.one-index l.said) ≡ workers_said l.said
