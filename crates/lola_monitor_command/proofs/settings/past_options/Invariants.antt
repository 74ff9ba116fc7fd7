use Rattle.std.proofs.Common.{◌≡◌, drop}
use Rattle.lola_monitor_command.specs.Command.{behind_options}
use Rattle.lola_monitor_command.proofs.settings.past_options.Given as goal

abbrev pub invariant-loop-at : goal.invariant-loop-at
invariant-loop-at l = behind_options (drop l.at l.said) ≡ behind_options l.said
