use Rattle.std.proofs.Common.{arith}
use Rattle.lola_pacing_normal.proofs.OrderLemmas.{lowest_within, least_other_by_lowest}
use Rattle.lola_pacing_normal.proofs.order.has_least_other.Goals as goal

pub overflow_shr-result : goal.overflow_shr-result
overflow_shr-result c = lowest_within c.args.set.now c.args.other.now c.requires (omega arith) (omega arith)

pub returns : goal.returns
returns c = least_other_by_lowest c.args.set.now c.args.other.now c.requires (omega arith) (omega arith)
