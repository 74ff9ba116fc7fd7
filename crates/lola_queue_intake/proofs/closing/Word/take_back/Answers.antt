use Rattle.std.proofs.Common.{subst, sym, arith, ◌<◌}
use Rattle.lola_queue_intake.proofs.WordSteps.{joins}
use Rattle.lola_queue_intake.proofs.closing.Word.take_back.Goals as goal

pub join_seat-requires : goal.join_seat-requires
join_seat-requires c = (c.requires.own.0, c.requires.own.1, c.requires.first.1, subst (λ n. 0 < n) (sym c.args.self.now.sized.0) (omega arith), joins c.args.taker.now.id c.args.taker.now.me.0 c.args.source.id c.args.source.me.0 c.requires.first.0)
