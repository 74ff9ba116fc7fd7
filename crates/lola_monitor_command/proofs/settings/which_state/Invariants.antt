use Rattle.std.proofs.Common.{◌≡◌, drop}
use Rattle.lola_monitor_command.specs.Command.{state_said}
use Rattle.lola_monitor_command.proofs.settings.which_state.Given as goal

abbrev pub invariant-loop-one : goal.invariant-loop-one
invariant-loop-one l = state_said (drop l.one-index l.said) ≡ state_said l.said
