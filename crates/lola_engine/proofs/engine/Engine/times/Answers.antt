-- How far an engine says it has come, it has come.
use Rattle.std.proofs.Common.{◌∙◌}
use Rattle.lola_engine.proofs.Resumed.{has_reached}
use Rattle.lola_engine.proofs.engine.Engine.times.Goals as goal

pub returns-clause-reached : goal.returns-clause-reached
returns-clause-reached g c before journal stands =
    let has = has_reached c.args.self.now.state (g.S.StreamStore.seen c.args.self.now.store) (g.S.StreamStore.remembers c.args.self.now.store) before journal stands in
    record { start = c.start.ensures ∙ has.start; last = c.last_of.ensures ∙ has.last; steps = has.steps }
