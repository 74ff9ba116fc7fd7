use Rattle.std.proofs.Common.{length}
use Rattle.lola_monitor_threads.proofs.sending.+send_each.Given as goal

-- each call takes one of the seated workers that wait
abbrev pub decreases-send_each : goal.decreases-send_each
decreases-send_each g l = length l.waiting.items
