use Rattle.std.proofs.Common.{List, MatchResult, ℕ, subst}
use Rattle.lola_monitor_run.specs.Running.{keeping}
use Rattle.lola_monitor.specs.ResumedOutcomes.{RunRead}
use Rattle.lola_monitor.specs.Stating.{NoEngine}
use Rattle.lola_monitor.proofs.resuming.read_run.Goals as goal

pub returns : goal.returns
returns g c =
    let plan = c.args.specification.plan in
    let name = c.args.name.now in
    let before = g.F.Shelf.state c.args.shelf.now in
    let after = g.F.Shelf.state c.run_of_state.new.shelf in
    subst (λ (b : List ℕ). MatchResult c.run_of_state.result (λ resumed. RunRead b plan c.args.show name (keeping resumed.run) resumed.start before after) (λ end. NoEngine end b plan name before after))
    c.deref.ensures.value c.run_of_state.ensures
