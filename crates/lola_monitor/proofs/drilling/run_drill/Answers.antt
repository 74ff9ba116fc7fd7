use Rattle.std.proofs.Common.{◌≡◌, ◌∙◌, ap, subst, sym}
use Rattle.lola_model.specs.Acceptance.{IsAccepted}
use Rattle.lola_model.specs.declared.plan.Plan.{Plan}
use Rattle.lola_front.specs.Front.{IsPlanOf}
use Rattle.lola_feed.specs.Drills.{drill_text}
use Rattle.lola_monitor_run.specs.Running.{keeping}
use Rattle.lola_monitor_run.specs.Verdicts.{Setting}
use Rattle.lola_monitor.specs.Drilling.{AreDrillWorkers, drill_setting}
use Rattle.lola_monitor.specs.Monitor.{HasItsModels}
use Rattle.lola_monitor.proofs.drilling.run_drill.Goals as goal

pub run_workers-requires-clause-accepted : goal.run_workers-requires-clause-accepted
run_workers-requires-clause-accepted g c κs within = subst IsAccepted (sym (ap (λ (s : Setting). s.plan) c.in-Ok.ensures.setting)) c.requires.accepted

pub run_workers-requires-clause-none : goal.run_workers-requires-clause-none
run_workers-requires-clause-none g c κs within = c.in-Ok.ensures.none

pub run_workers-requires-clause-behind : goal.run_workers-requires-clause-behind
run_workers-requires-clause-behind g c κs within = c.in-Ok.ensures.run

pub run_workers-requires-clause-setting : goal.run_workers-requires-clause-setting
run_workers-requires-clause-setting g c κs within = c.in-Ok.ensures.setting ∙ ap drill_setting (sym (ap (λ (s : Setting). s.plan) c.in-Ok.ensures.setting))

pub run_workers-requires-clause-workers : goal.run_workers-requires-clause-workers
run_workers-requires-clause-workers g c κs within =
    subst (λ (p : Plan). AreDrillWorkers p c.args.command.now c.in-Ok.room.1.items) (sym (ap (λ (s : Setting). s.plan) c.in-Ok.ensures.setting)) c.in-Ok.ensures.workers

pub returns : goal.returns
returns g c = λ is_plan one_model.
    let plan_is : (keeping c.in-Ok.room.0).state.plan ≡ c.args.plan = ap (λ (s : Setting). s.plan) c.in-Ok.ensures.setting in
    c.run_workers.ensures (subst (IsPlanOf drill_text) (sym plan_is) is_plan) (subst HasItsModels (sym plan_is) one_model)
