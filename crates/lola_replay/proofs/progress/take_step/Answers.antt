use Rattle.std.proofs.Common.{◌∙◌, refl}
use Rattle.lola_replay_table.specs.Moments.{the_step}
use Rattle.lola_replay.proofs.TakingLemmas.{known-long, step-faulty, step-fine}
use Rattle.lola_replay.proofs.progress.take_step.Goals as goal

pub returns-in-Some-clause-taken : goal.returns-in-Some-clause-taken
returns-in-Some-clause-taken c = λ text table at.
    step-faulty c.args.course.now.plan.now c.args.course.now.show text c.args.moment.now.start table (the_step c.args.moment.now) c.args.progress.now _ c.answer_step.new.known
    c.answer_step.new.room.closed.items at refl c.in_ok-fault.fault c.in-Some.fault c.in-Some.is (c.in_ok-fault.ensures.answered table at.first_is at.born_in at.rests) refl

pub returns-in_ok-finish_step-in-None-clause-fine : goal.returns-in_ok-finish_step-in-None-clause-fine
returns-in_ok-finish_step-in-None-clause-fine c = λ none. (
  known-long c.args.moment.now.time c.answer_step.new.room.closed.items c.answer_step.new.known c.finish_step.new.progress.known _ c.in_ok-finish_step-in-None.ensures.known
      (c.in_ok-fault.ensures.long ∙ c.requires.long),
  c.in_ok-finish_step-in-None.ensures.from,
)

pub returns-in_ok-finish_step-in-None-clause-taken : goal.returns-in_ok-finish_step-in-None-clause-taken
returns-in_ok-finish_step-in-None-clause-taken c = λ text table at.
    let done = c.in_ok-finish_step-in-None.ensures in
    step-fine c.args.course.now.plan.now c.args.course.now.show text c.args.moment.now.start table (the_step c.args.moment.now) c.args.progress.now c.finish_step.new.progress c.answer_step.new.known
    c.answer_step.new.room.closed.items at done.steps c.in_ok-fault.fault c.in-None.is (c.in_ok-fault.ensures.answered table at.first_is at.born_in at.rests) done.first done.known done.lines done.from
