use Rattle.std.proofs.Common.{ap, ◌∙◌}
use Rattle.lola_engine.specs.Resuming.{merge_start}
use Rattle.lola_monitor_run.specs.Running.{keeping}
use Rattle.lola_monitor.proofs.StateRuns.{run_read}
use Rattle.lola_monitor.proofs.resuming.run_of_state.Goals as goal

pub returns-in-Ok-resume : goal.returns-in-Ok-resume
returns-in-Ok-resume g c =
    run_read c.args.specification.now c.args.plan c.args.show c.args.name.now c.in-Ok.engine.state c.in-Ok.engine.store (g.F.Shelf.state c.args.shelf.now) (g.F.Shelf.state c.read_engine.new.shelf) c.in-Ok.ensures
    (keeping c.in-Ok-resume.run') c.merge_start-start.result c.in-Ok-resume.ensures (c.merge_start-start.ensures ∙ ap merge_start c.times.ensures.value)
