use Rattle.lola_replay.proofs.RunningLemmas.{begun-fit, begun-on}
use Rattle.lola_replay.proofs.entries.begin_run.Goals as goal

pub returns-clause-fit : goal.returns-clause-fit
returns-clause-fit c = (
  begun-fit c.args.course.now.plan.now c.untracked.result c.in_ok-begin.field-0 c.untracked.ensures.tallied c.untracked.ensures.entries c.in_ok-begin.ensures.fit,
  c.untracked.ensures.entries,
)

pub returns-clause-on : goal.returns-clause-on
returns-clause-on c =
    begun-on c.args.course.now.plan.now c.args.start c.args.course.now.show c.args.verdicts.now c.untracked.result c.in_ok-begin.field-0 c.untracked.ensures.tracks c.in_ok-begin.ensures.at
