-- The law.
use Rattle.lola_monitor_command.proofs.SnapshotInOrder.{snapshots_in_order}
use Rattle.lola_monitor_command.proofs.law.snapshots_are_in_order.Goals as goal

pub returns : goal.returns
returns c = snapshots_in_order
