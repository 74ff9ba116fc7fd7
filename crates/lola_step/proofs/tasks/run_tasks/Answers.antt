-- A job of tasks that may be done, lent to the threads.
use denote.Exit.{yes}
use denote.Param.Send.{arg_sync, param_sync}
use Rattle.lola_step.proofs.Done.{are_ready}
use Rattle.lola_step.proofs.Shared.{job_sync}
use Rattle.lola_step.proofs.tasks.run_tasks.Goals as goal

pub invariant_of-job : goal.invariant_of-job
invariant_of-job g c =
    record {
      coded = c.requires.code;
      in_time = c.requires.in_time;
      running = c.requires.running;
      layout = c.requires.layout;
      ready = are_ready c.args.plan.now c.args.moment.now (g.S.StreamStore.seen c.args.store.now) c.args.tasks.now c.requires.ready;
    }

pub run_layer-requires-sync-J : goal.run_layer-requires-sync-J
run_layer-requires-sync-J g c κs within = param_sync 1 _ (arg_sync _ yes _ (job_sync _ _ _ c.type_bounds.sync-S))
