use Rattle.std.proofs.Common.{◌∙◌}
use Rattle.lola_replay.proofs.TakingLemmas.{turned-ok}
use Rattle.lola_replay.proofs.progress.take_due.Goals as goal

pub returns-in-Some-clause-turned : goal.returns-in-Some-clause-turned
returns-in-Some-clause-turned c = λ text next n goes along.
    turned-ok c.args.course.now.plan.now c.args.course.now.show text c.args.start next n c.args.limit c.in-Some.time c.args.progress.now c.take_deadline.new.progress c.take_deadline.result goes along
    (c.next_due.ensures.due along.table along.at.rests along.at.from_is ∙ c.in-Some.is) (c.take_deadline.ensures.taken text along.table along.at)
