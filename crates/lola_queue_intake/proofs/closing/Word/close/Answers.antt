use Rattle.std.proofs.Common.{subst, sym, arith, ◌<◌}
use Rattle.lola_queue_intake.proofs.WordSteps.{writes}
use Rattle.lola_queue_intake.proofs.closing.Word.close.Goals as goal

pub store-requires : goal.store-requires
store-requires c = (c.requires.own, subst (λ n. 0 < n) (sym c.args.self.now.sized.0) (omega arith), writes c.args.self.now.table.shared.table_id.slots c.args.taker.now.id c.args.taker.now.me c.requires.first)
