-- Each task of the job may be done.
use Rattle.std.proofs.Common.{sym, subst, Option}
use Rattle.std.proofs.lemmas.Option.{slice_get-get_or}
use Rattle.lola_step.specs.Tasks.{IsResultAt}
use Rattle.lola_step.specs.declared.tasks.Task.{Task}
use Rattle.lola_step.proofs.Done.{is_task}
use Rattle.lola_step.proofs.tasks.LayerJobJob.answer.Goals as goal

pub task_outcome-requires-clause-ready : goal.task_outcome-requires-clause-ready
task_outcome-requires-clause-ready g c =
    let job = c.args.self.now in
    let read = slice_get-get_or job.tasks.now c.args.task (record { stream = 0; index = 0 }) c.requires in
    is_task job.plan.now job.moment.now (g.S.StreamStore.seen job.store.now) job.tasks.now job.ready c.args.task _ read

pub task_outcome-requires-clause-none : goal.task_outcome-requires-clause-none
task_outcome-requires-clause-none g c = c.no_parameters.ensures

pub returns : goal.returns
returns g c =
    let job = c.args.self.now in
    let read = slice_get-get_or job.tasks.now c.args.task (record { stream = 0; index = 0 }) c.requires in
    subst (λ (o : Option Task). IsResultAt job.plan.now job.moment.now (g.S.StreamStore.remembers job.store.now) (g.S.StreamStore.seen job.store.now) o c.task_outcome.result) (sym read) c.task_outcome.ensures
