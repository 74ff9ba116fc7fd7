use Rattle.std.proofs.Common.{◌∙◌, sym}
use Rattle.lola_step.specs.Moments.{born_seen}
use Rattle.lola_step.proofs.closes.close_condition.Goals as goal

pub close_outcome-requires-clause-asks : goal.close_outcome-requires-clause-asks
close_outcome-requires-clause-asks g c =
    c.requires.asks (born_seen (g.S.StreamStore.seen c.args.store.now) c.args.stream c.args.index) (sym c.is_active_for.ensures ∙ c.if-is_active_for.true)
    c.params_of-params.result c.params_of-params.ensures.kinds
