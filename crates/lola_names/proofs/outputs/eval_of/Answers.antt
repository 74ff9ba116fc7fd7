use Rattle.std.proofs.Common.{refl}
use Rattle.lola_names.proofs.Scopes.{scope_of}
use Rattle.lola_names.proofs.StreamLemmas.{means_parameters}
use Rattle.lola_names.proofs.outputs.eval_of.Goals as goal

pub returns-clause-resolved : goal.returns-clause-resolved
returns-clause-resolved c =
    λ texts windows begins.
    c.in_ok-clause.ensures.resolved _ _
    (scope_of _ c.args.declarations.now c.args.x.now.parameters refl c.requires (means_parameters _ c.as_slice.result.now c.args.x.now.parameters c.as_slice.ensures c.in_ok-own.ensures)) texts windows begins
