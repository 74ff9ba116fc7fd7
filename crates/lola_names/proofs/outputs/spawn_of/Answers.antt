use Rattle.std.proofs.Common.{[], refl}
use Rattle.lola_names.proofs.Scopes.{scope_of}
use Rattle.lola_names.proofs.StreamLemmas.{means_same}
use Rattle.lola_names.proofs.outputs.spawn_of.Goals as goal

pub returns-clause-resolved : goal.returns-clause-resolved
returns-clause-resolved c =
    λ texts windows begins. c.in_ok-clause.ensures.resolved _ _ (scope_of _ c.args.declarations.now [] refl c.requires (means_same _ [] c.create-own.ensures)) texts windows begins
