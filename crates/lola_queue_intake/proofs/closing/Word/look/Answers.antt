use Rattle.std.proofs.Common.{subst, sym, arith, ◌<◌}
use Rattle.lola_queue_intake.proofs.WordSteps.{looks}
use Rattle.lola_queue_intake.proofs.closing.Word.look.Goals as goal

pub load-requires : goal.load-requires
load-requires c = (c.requires, subst (λ n. 0 < n) (sym c.args.self.now.sized.0) (omega arith), looks c.args.self.now.table.shared.table_id.slots c.args.seat.now.id c.args.seat.now.me)
