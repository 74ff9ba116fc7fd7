use Rattle.std.proofs.Common.{◌≡◌, ◌<◌, ◌^◌, drop}
use Rattle.lola_value.specs.Times.{number_after, number_of}
use Rattle.lola_monitor_command.proofs.command.number_spelled.Given as goal

abbrev pub invariant-loop-digit : goal.invariant-loop-digit
invariant-loop-digit l = record { below : l.number < 10 ^ l.digit-index; value : number_after l.number (drop l.digit-index l.digits) ≡ number_of l.digits }
