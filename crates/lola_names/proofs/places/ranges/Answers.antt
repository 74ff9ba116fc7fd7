use Rattle.lola_names.proofs.WholeLemmas.{ranges_more}
use Rattle.lola_names.proofs.places.ranges.Goals as goal

pub loop-declaration-preserved : goal.loop-declaration-preserved
loop-declaration-preserved c =
    ranges_more c.args.declarations.now c.loop-declaration.declaration-index c.declaration-item.result c.loop-declaration.places c.declaration_ranges.new.to _
    c.loop-declaration.rest.now c.behind-rest.result.now c.loop-declaration-test.true c.declaration-item.is c.in_ok-declaration_ranges.ensures c.behind-rest.ensures
    c.loop-declaration.invariant
