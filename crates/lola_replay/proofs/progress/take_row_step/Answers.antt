use Rattle.std.proofs.Common.{◌+◌, ◌++◌, [], ◌∷◌, Option, refl, subst, sym}
use Rattle.std.specs.Option.{option_map}
use Rattle.lola_model.specs.Steps.{row_step}
use Rattle.lola_replay_step.specs.StepFaults.{the_fault}
use Rattle.lola_replay.specs.Progressing.{IsSettled, told_at}
use Rattle.lola_replay.specs.declared.progress.Fault.{Fault}
use Rattle.lola_replay.proofs.TakingLemmas.{row-settled, settled-counted, taken-as}
use Rattle.lola_replay.proofs.progress.take_row_step.Goals as goal

pub returns-clause-settled : goal.returns-clause-settled
returns-clause-settled c = λ text rows past.
    let plan = c.args.course.now.plan.now in
    let show = c.args.course.now.show in
    let start = c.args.start in
    let row = c.args.row.now in
    let after = c.take_step.new.progress in
    let told = told_at row.stamp c.in_ok-fault.fault in
    settled-counted plan show text start (rows ++ row ∷ []) c.fault_at.result after (after.rows + 1)
    (subst (λ (f : Option Fault). IsSettled plan show text start (rows ++ row ∷ []) f after) (sym c.fault_at.ensures)
    (row-settled plan show text start rows row c.args.progress.now after c.in_ok-fault.fault past
    (taken-as plan show text c.row_moment-moment.result.start start past.table _ (row_step row) _ (option_map the_fault c.in_ok-fault.fault) after c.row_moment-moment.ensures.start
    c.row_moment-moment.ensures.step refl (c.in_ok-fault.ensures.taken text past.table past.at))))
