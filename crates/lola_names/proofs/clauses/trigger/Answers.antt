use Rattle.std.proofs.Common.{[], ◌∷◌, None, refl}
use Rattle.lola_names.proofs.ClauseLemmas.{of_same, trigger_of}
use Rattle.lola_names.proofs.clauses.trigger.Goals as goal

pub returns-clause-resolved : goal.returns-clause-resolved
returns-clause-resolved c =
    trigger_of c.args.scope.now c.clause.new.made c.args.x.now c.in_ok-made.made
    (of_same c.args.scope.now c.clause.new.made c.args.x.now.when.at c.args.x.now.pacing None None _ (c.args.x.now.when ∷ []) c.in_ok-made.made
    refl c.from_ref-with.ensures.value c.in_ok-made.ensures.resolved)
