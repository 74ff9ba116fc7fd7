-- Fewer shares are left in each call.
use Rattle.std.proofs.Common.{length}
use Rattle.lola_workers.proofs.layer.+fn-share_among-join_mut+arg3+share_among.Given as goal

abbrev pub decreases-join_mut+arg3 : goal.decreases-join_mut+arg3
decreases-join_mut+arg3 g l = length l.others.now

abbrev pub decreases-share_among : goal.decreases-share_among
decreases-share_among g l = length l.shares.now
