use Rattle.lola_step_contents.proofs.Complete.{completes}
use Rattle.lola_step_contents.proofs.Evals.{evals_go}
use Rattle.lola_step_contents.proofs.Inputs.{inputs_go}
use Rattle.lola_step_contents.proofs.Spawns.{spawns_go}
use Rattle.lola_step_contents.proofs.stages.steps_go.Goals as goal

pub returns : goal.returns
returns c = λ accepted start rows step of_rows settled.
    let plan = c.args._plan.now in
    record {
      inputs = inputs_go plan accepted start rows settled step;
      spawns = λ layer. spawns_go plan accepted start rows step layer;
      evals = λ layer. evals_go plan accepted start rows step layer;
      completes = completes plan accepted start rows step;
    }
