use Rattle.std.proofs.Common.{subst}
use Rattle.lola_replay.specs.Progressing.{IsTurned}
use Rattle.lola_replay.specs.declared.progress.NextDeadline.{NextDeadline}
use Rattle.lola_replay.proofs.progress.take_deadlines.Goals as goal

pub returns-in-Past-clause-passed : goal.returns-in-Past-clause-passed
returns-in-Past-clause-passed c = λ text next n goes along.
    subst (λ (t : NextDeadline). IsTurned c.args.course.now.plan.now c.args.course.now.show text c.args.start next n c.args.limit t c.take_due.new.progress) c.in-Past.is
    (c.in_ok-take_due.ensures.turned text next n goes (c.loop-fault.invariant.along text next n goes along))

pub returns-in-Faulty-clause-passed : goal.returns-in-Faulty-clause-passed
returns-in-Faulty-clause-passed c = λ text next n goes along.
    subst (λ (t : NextDeadline). IsTurned c.args.course.now.plan.now c.args.course.now.show text c.args.start next n c.args.limit t c.take_due.new.progress) c.in-Faulty.is
    (c.in_ok-take_due.ensures.turned text next n goes (c.loop-fault.invariant.along text next n goes along))
