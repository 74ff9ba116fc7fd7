use Rattle.std.proofs.Common.{Option, ap, refl}
use Rattle.std.specs.Option.{option_map}
use Rattle.lola_replay_step.specs.StepFaults.{the_fault}
use Rattle.lola_replay_step.specs.declared.fault.StepFault.{StepFault}
use Rattle.lola_replay.proofs.TakingLemmas.{taken-as}
use Rattle.lola_replay.proofs.progress.take_deadline.Goals as goal

pub returns-in-Some-clause-taken : goal.returns-in-Some-clause-taken
returns-in-Some-clause-taken c = λ text table at. (
  taken-as c.args.course.now.plan.now c.args.course.now.show text c.deadline_moment-moment.result.start c.args.start table _ _ _ _ c.take_step.new.progress
      c.deadline_moment-moment.ensures.start c.deadline_moment-moment.ensures.step (ap (λ (o : Option StepFault). option_map the_fault o) c.in-Some.is) (c.in_ok-fault.ensures.taken text table at),
  refl,
)

pub returns-in-None-clause-taken : goal.returns-in-None-clause-taken
returns-in-None-clause-taken c = λ text table at.
    taken-as c.args.course.now.plan.now c.args.course.now.show text c.deadline_moment-moment.result.start c.args.start table _ _ _ _ c.take_step.new.progress
    c.deadline_moment-moment.ensures.start c.deadline_moment-moment.ensures.step (ap (λ (o : Option StepFault). option_map the_fault o) c.in-None.is) (c.in_ok-fault.ensures.taken text table at)
