use Rattle.lola_names.proofs.ClauseLemmas.{close_of}
use Rattle.lola_names.proofs.clauses.close.Goals as goal

pub returns-in_ok-made-in-Some-clause-resolved : goal.returns-in_ok-made-in-Some-clause-resolved
returns-in_ok-made-in-Some-clause-resolved c =
    close_of c.args.scope.now c.clause.new.made c.args.x.now c.in-Some.x c.in_ok-made-in-Some.made c.in-Some.is c.in_ok-made-in-Some.ensures.resolved
