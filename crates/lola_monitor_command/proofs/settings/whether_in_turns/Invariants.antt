use Rattle.std.proofs.Common.{◌≡◌, drop}
use Rattle.lola_monitor_command.specs.Command.{in_turns_said}
use Rattle.lola_monitor_command.proofs.settings.whether_in_turns.Given as goal

abbrev pub invariant-loop-one : goal.invariant-loop-one
invariant-loop-one l = in_turns_said (drop l.one-index l.said) ≡ in_turns_said l.said
