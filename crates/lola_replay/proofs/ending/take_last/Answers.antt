use Rattle.std.proofs.Common.{length}
use Rattle.lola_model.specs.Journal.{accepted}
use Rattle.lola_model.specs.NextStep.{next_below}
use Rattle.lola_replay.proofs.EndingLemmas.{along-last, ended-last}
use Rattle.lola_replay.proofs.TakingLemmas.{below-end}
use Rattle.lola_replay.proofs.ending.take_last.Goals as goal

pub returns-clause-ended : goal.returns-clause-ended
returns-clause-ended c = λ start text journal on.
    let plan = c.args.course.now.plan.now in
    let has = c.one_model_of_accepted.ensures.runs in
    let show = c.args.course.now.show in
    let run = c.args.run.now in
    let at = c.start_at-start.result in
    let limit = run.tracking.limit in
    ended-last plan has start show text journal run on c.requires.fine at c.start_at-start.ensures c.take_deadlines.new.progress c.take_deadlines.result
    (c.take_deadlines.ensures.passed text (next_below plan at (accepted journal) limit) (length (accepted journal)) (below-end plan show text at (accepted journal) limit)
    (along-last plan has start show text journal run on c.requires.fine at c.start_at-start.ensures))
