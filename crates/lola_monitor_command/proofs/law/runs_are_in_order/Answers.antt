-- The law.
use Rattle.lola_monitor_command.proofs.InOrder.{in_order}
use Rattle.lola_monitor_command.proofs.law.runs_are_in_order.Goals as goal

pub returns : goal.returns
returns c = in_order
