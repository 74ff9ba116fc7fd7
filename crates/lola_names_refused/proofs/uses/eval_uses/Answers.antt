use Rattle.std.proofs.Common.{◌++◌}
use Rattle.lola_names_refused.specs.Refused as refused
use Rattle.lola_names_refused.proofs.Noting.{finds_more}
use Rattle.lola_names_refused.proofs.uses.eval_uses.Goals as goal

pub returns : goal.returns
returns c =
    let ps = c.args.parameters.now in
    let ns = c.args.names.now in
    let x = c.args.eval.now in
    finds_more _ _ _ (refused.pacing_uses ns x.pacing) (refused.when_uses ps ns x.when ++ refused.uses ps ns x.with.expr) c.pacing_uses.ensures
    (finds_more _ _ _ (refused.when_uses ps ns x.when) (refused.uses ps ns x.with.expr) c.when_uses.ensures c.expr_uses.ensures)
