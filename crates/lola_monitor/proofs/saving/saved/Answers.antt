use Rattle.lola_save_text.specs.Fitting.{most_steps}
use Rattle.lola_monitor_run.specs.Running.{keeping}
use Rattle.lola_monitor.proofs.SavingStates.{few_of, saves_none, saves_text}
use Rattle.lola_monitor.proofs.saving.saved.Goals as goal

pub returns-in-Ok : goal.returns-in-Ok
returns-in-Ok c =
    let e = c.engine-engine.result.now in
    saves_text c.args.specification.now (keeping c.args.run.now) e.state e.store c.times.result c.engine-engine.ensures.state c.engine-engine.ensures.store c.times.ensures.value c.times.ensures.reached c.in-Ok.text
    (few_of c.are_too_many.result c.times.result.steps most_steps c.are_too_many.ensures c.if-are_too_many.false) c.in-Ok.ensures

pub returns-then-are_too_many : goal.returns-then-are_too_many
returns-then-are_too_many c =
    let e = c.engine-engine.result.now in
    saves_none c.args.specification.now (keeping c.args.run.now) e.state e.store c.times.result c.engine-engine.ensures.state c.engine-engine.ensures.store c.times.ensures.value c.times.ensures.reached
    (c.are_too_many.ensures.0 c.if-are_too_many.true)
