use Rattle.lola_replay.proofs.EndingLemmas.{finds-ended, finds-other}
use Rattle.lola_replay.proofs.ending.verdicts_finding.Goals as goal

pub returns-in-Some : goal.returns-in-Some
returns-in-Some c = λ start text journal ended.
    finds-other c.args.course.now.plan.now start c.args.course.now.show text journal c.args.fault c.args.run.now c.in-Some.line ended c.in-Some.is

pub returns : goal.returns
returns c = λ start text journal ended.
    finds-ended c.args.course.now.plan.now start c.args.course.now.show text journal c.args.fault c.args.run.now ended c.in_default.is c.end_finding.result c.end_finding.ensures
