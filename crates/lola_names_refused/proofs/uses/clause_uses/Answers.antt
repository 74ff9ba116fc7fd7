use Rattle.std.proofs.Common.{◌++◌}
use Rattle.lola_names_refused.specs.Refused as refused
use Rattle.lola_names_refused.proofs.Noting.{finds_more}
use Rattle.lola_names_refused.proofs.uses.clause_uses.Goals as goal

pub returns : goal.returns
returns c =
    let ps = c.args.parameters.now in
    let ns = c.args.names.now in
    let x = c.args.output.now in
    let spawned = refused.of_option (refused.spawn_uses ns) x.spawn in
    let evaluated = refused.eval_uses ps ns x.eval in
    let closed = refused.of_option (refused.close_uses ps ns) x.close in
    finds_more _ _ _ spawned (evaluated ++ closed) c.spawn_uses.ensures (finds_more _ _ _ evaluated closed c.eval_uses.ensures c.close_uses.ensures)
