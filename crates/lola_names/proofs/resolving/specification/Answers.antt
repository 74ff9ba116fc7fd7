use Rattle.lola_names.proofs.WholeLemmas.{resolves}
use Rattle.lola_names.proofs.resolving.specification.Goals as goal

pub returns : goal.returns
returns c =
    resolves c.args.declarations.now c.in_ok-resolved.resolved.made c.in_ok-resolved.resolved.streams c.in_ok-rest.rest.constants c.in_ok-rest.rest.texts c.in_ok-rest.rest.refused
    c.in_ok-resolved.ensures.streams c.in_ok-resolved.ensures.grown c.in_ok-rest.ensures.constants c.in_ok-rest.ensures.refused c.in_ok-rest.ensures.texts c.in_ok-rest.ensures.distinct
