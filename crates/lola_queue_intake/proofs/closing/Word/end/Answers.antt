use Rattle.lola_queue_intake.proofs.WordSteps.{ends}
use Rattle.lola_queue_intake.proofs.closing.Word.end.Goals as goal

pub returns : goal.returns
returns c = let last = c.close_with.ensures.values.2 in ends c.args.taker.id c.args.taker.me.0 last.0 c.requires.first last.1
