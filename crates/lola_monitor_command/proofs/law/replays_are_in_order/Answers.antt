-- The law.
use Rattle.lola_monitor_command.proofs.ReplayInOrder.{replays_in_order}
use Rattle.lola_monitor_command.proofs.law.replays_are_in_order.Goals as goal

pub returns : goal.returns
returns c = replays_in_order
