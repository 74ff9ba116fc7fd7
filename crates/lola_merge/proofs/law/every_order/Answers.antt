use Rattle.lola_merge.proofs.Orders.{every_order_interleaves}
use Rattle.lola_merge.proofs.law.every_order.Goals as goal

pub returns : goal.returns
returns c = every_order_interleaves
