use Rattle.std.proofs.Common.{[], ◌∷◌}
use Rattle.lola_names.proofs.ClauseLemmas.{of_same, eval_of}
use Rattle.lola_names.proofs.clauses.eval.Goals as goal

pub returns-clause-resolved : goal.returns-clause-resolved
returns-clause-resolved c =
    eval_of c.args.scope.now c.clause.new.made c.args.x.now c.in_ok-made.made
    (of_same c.args.scope.now c.clause.new.made c.args.x.now.at c.args.x.now.pacing _ c.args.x.now.when _ (c.args.x.now.with ∷ []) c.in_ok-made.made
    c.as_ref.ensures.value c.from_ref-with.ensures.value c.in_ok-made.ensures.resolved)
