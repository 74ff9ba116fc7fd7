use Rattle.std.proofs.Common.{[], refl}
use Rattle.lola_monitor_run.specs.Running.{keeping}
use Rattle.lola_monitor.specs.Drilling.{drill_setting}
use Rattle.lola_monitor.proofs.BehindNothing.{begins_anew}
use Rattle.lola_monitor.proofs.Drilled.{are_ready, drilled, few_workers}
use Rattle.lola_monitor.proofs.drilling.run_workers.Goals as goal

pub resume_in_turns-workers-requires-clause-ready : goal.resume_in_turns-workers-requires-clause-ready
resume_in_turns-workers-requires-clause-ready g c κs within =
    let plan = (keeping c.args.run.now).state.plan in
    are_ready plan plan c.args._command.now c.args.workers.items refl c.requires.workers

pub resume_in_turns-workers-requires-clause-start : goal.resume_in_turns-workers-requires-clause-start
resume_in_turns-workers-requires-clause-start g c κs within =
    let kept = keeping c.args.run.now in
    begins_anew kept (drill_setting kept.state.plan) c.requires.behind c.requires.setting

pub end_of-end-requires : goal.end_of-end-requires
end_of-end-requires g c =
    few_workers (keeping c.args.run.now).state.plan c.args._command.now c.args.workers.items c.resume_in_turns-workers.result.0.items c.as_slice.result.now
    c.requires.workers c.resume_in_turns-workers.ensures.places c.as_slice.ensures.value

pub returns-in-Line : goal.returns-in-Line
returns-in-Line g c = λ is_plan one_model.
    drilled c.args._command.now (keeping c.args.run.now).state.plan (keeping c.args.run.now) (keeping c.resume_in_turns-workers.new.run) c.args.workers.items
    c.resume_in_turns-workers.result.0.items c.as_slice.result.now c.resume_in_turns-workers.result.1 c.end_of-end.result c.in-Line.line
    is_plan c.requires.accepted one_model c.requires.setting c.requires.workers c.resume_in_turns-workers.ensures.places c.let_go.ensures
    c.as_slice.ensures.value c.end_of-end.ensures c.resume_in_turns-workers.ensures.plan c.in-Line.ensures (c.resume_in_turns-workers.ensures.run [] c.requires.behind)
