use Rattle.std.proofs.Common.{◌++◌, [], ◌∷◌, Option, length, subst}
use Rattle.lola_model.specs.NextStep.{next_below}
use Rattle.lola_replay.specs.Progressing.{IsPassed}
use Rattle.lola_replay.specs.declared.progress.Fault.{Fault}
use Rattle.lola_replay.proofs.TakingLemmas.{along-row, below-row, passed-settled}
use Rattle.lola_replay.proofs.progress.take_row.Goals as goal

pub returns-in-Some-clause-settled : goal.returns-in-Some-clause-settled
returns-in-Some-clause-settled c = λ text rows along.
    let plan = c.args.course.now.plan.now in
    let show = c.args.course.now.show in
    let start = c.args.start in
    let row = c.args.row.now in
    passed-settled plan show text start rows row row.stamp c.in-Some.fault c.in_ok-fault.field-0 c.take_deadlines.new.progress c.in-Some.is
    (c.in_ok-fault.ensures.passed text (next_below plan start (rows ++ row ∷ []) 0) (length rows) (below-row plan show text start rows row) (along-row plan show text start rows row c.args.progress.now along))

pub returns-in-None-clause-settled : goal.returns-in-None-clause-settled
returns-in-None-clause-settled c = λ text rows along.
    let plan = c.args.course.now.plan.now in
    let show = c.args.course.now.show in
    let start = c.args.start in
    let row = c.args.row.now in
    c.take_row_step.ensures.settled text rows
    (subst (λ (o : Option Fault). IsPassed plan show text start (next_below plan start (rows ++ row ∷ []) 0) (length rows) row.stamp o c.take_deadlines.new.progress) c.in-None.is
    (c.in_ok-fault.ensures.passed text (next_below plan start (rows ++ row ∷ []) 0) (length rows) (below-row plan show text start rows row) (along-row plan show text start rows row c.args.progress.now along)))
