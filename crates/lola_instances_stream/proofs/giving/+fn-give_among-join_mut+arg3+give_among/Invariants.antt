-- One worker less is left in each call.
use Rattle.lola_instances_stream.proofs.giving.+fn-give_among-join_mut+arg3+give_among.Given as goal

abbrev pub decreases-join_mut+arg3 : goal.decreases-join_mut+arg3
decreases-join_mut+arg3 g l = l.fewer

abbrev pub decreases-give_among : goal.decreases-give_among
decreases-give_among g l = l.workers
