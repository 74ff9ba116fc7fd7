use Rattle.lola_names.proofs.WholeLemmas.{constants_end}
use Rattle.lola_names.proofs.constants.constants.Goals as goal

pub returns : goal.returns
returns c =
    constants_end c.args.texts.now c.args.declarations.now c.loop-declaration.declaration-index c.loop-declaration.constants c.loop-declaration-test.false
    c.loop-declaration.invariant
