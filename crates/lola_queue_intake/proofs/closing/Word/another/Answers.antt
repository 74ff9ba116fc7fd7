use Rattle.std.proofs.Common.{subst, sym, arith, ◌<◌}
use Rattle.lola_queue_intake.proofs.WordSteps.{splits}
use Rattle.lola_queue_intake.proofs.closing.Word.another.Goals as goal

pub split_seat-requires : goal.split_seat-requires
split_seat-requires c = (c.requires, subst (λ n. 0 < n) (sym c.args.self.now.sized.0) (omega arith), splits c.args.taker.now.id c.args.taker.now.me.0)
