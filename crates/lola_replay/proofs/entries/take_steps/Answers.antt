use Rattle.std.proofs.Common.{◌++◌, [], ◌∷◌, Option, subst, sym}
use Rattle.lola_model.specs.Journal.{accepted}
use Rattle.lola_replay.specs.Progressing.{IsSettled}
use Rattle.lola_replay.specs.Running.{IsStart}
use Rattle.lola_replay.specs.declared.progress.Fault.{Fault}
use Rattle.lola_replay.proofs.RunningLemmas.{few-fields, starts-at, steps-accepted, steps-late}
use Rattle.lola_replay.proofs.entries.take_steps.Goals as goal

pub take_row-requires-clause-fields : goal.take_row-requires-clause-fields
take_row-requires-clause-fields c = few-fields c.args.course.now.plan.now c.args.entry.now c.requires.accepted.named.few_inputs c.requires.traceable

pub returns-in_ok-run-in-Accepted-clause-settled : goal.returns-in_ok-run-in-Accepted-clause-settled
returns-in_ok-run-in-Accepted-clause-settled c = λ start text journal on.
    let plan = c.args.course.now.plan.now in
    let show = c.args.course.now.show in
    let e = c.args.entry.now in
    let tracking = c.args.run.now.tracking in
    let progress = c.take_row.new.progress in
    let fault = c.in_ok-run-in-Accepted.field-0 in
    let at = c.start_at-start.result in
    let begins = subst (IsStart tracking.begin) (sym c.start_at-start.ensures) (starts-at tracking.begin e.row.stamp) in
    let along = subst (λ (f : Option Fault). IsSettled plan show text at (accepted journal) f c.args.run.now.progress) c.requires.fine (on.settled at begins) in
    steps-accepted plan start show text journal e tracking fault progress c.in-Accepted.is
    (subst (λ t. IsSettled plan show text t (accepted journal ++ e.row ∷ []) fault progress) c.start_at-start.ensures
    (c.in_ok-run-in-Accepted.ensures.settled text (accepted journal) along))

pub returns-in-Late-clause-settled : goal.returns-in-Late-clause-settled
returns-in-Late-clause-settled c = λ start text journal on.
    steps-late c.args.course.now.plan.now start c.args.course.now.show text journal c.args.entry.now c.in-Late.field-0 c.args.run.now c.in-Late.is on
