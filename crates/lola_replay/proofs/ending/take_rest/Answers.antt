use Rattle.lola_replay.proofs.EndingLemmas.{ended-told}
use Rattle.lola_replay.proofs.ending.take_rest.Goals as goal

pub returns-in-Some-clause-ended : goal.returns-in-Some-clause-ended
returns-in-Some-clause-ended c = λ start text journal on.
    ended-told c.args.course.now.plan.now c.one_model_of_accepted.ensures.runs start c.args.course.now.show text journal c.args.run.now on c.in-Some.fault c.in-Some.is
