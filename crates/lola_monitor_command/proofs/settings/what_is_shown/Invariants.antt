use Rattle.std.proofs.Common.{◌≡◌, drop}
use Rattle.lola_monitor_command.specs.Command.{show_said}
use Rattle.lola_monitor_command.proofs.settings.what_is_shown.Given as goal

abbrev pub invariant-loop-one : goal.invariant-loop-one
invariant-loop-one l = show_said (drop l.one-index l.said) ≡ show_said l.said
