use Rattle.lola_names_refused.specs.Refused as refused
use Rattle.lola_names_refused.proofs.Noting.{find_turn, find_end}
use Rattle.lola_names_refused.proofs.uses.all_uses.Goals as goal

pub loop-declaration-preserved : goal.loop-declaration-preserved
loop-declaration-preserved c =
    find_turn (refused.declaration_uses c.args.names.now) c.args.declarations.now c.loop-declaration.declaration-index c.declaration-item.result _ _ _ c.loop-declaration-test.true c.declaration-item.is c.in_ok-declaration_uses.ensures c.loop-declaration.invariant

pub returns : goal.returns
returns c = find_end (refused.declaration_uses c.args.names.now) c.args.declarations.now c.loop-declaration.declaration-index _ _ c.loop-declaration-test.false c.loop-declaration.invariant
