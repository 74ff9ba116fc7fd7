-- The expression's outcome, in short.
use Rattle.std.proofs.Common.{◌≡◌, subst, sym}
use Rattle.lola_value.specs.declared.value.Outcome.{Outcome}
use Rattle.lola_value.specs.Naming.{IsHeldIn, read_outcome, read_params}
use Rattle.lola_model.specs.Denotation.{den}
use Rattle.lola_step.proofs.clauses.coded_outcome.Goals as goal

pub returns-in-None-clause-value : goal.returns-in-None-clause-value
returns-in-None-clause-value g c plan names d sees named =
    let P : Outcome → Type 0 = λ o. (read_outcome names o ≡ den plan.spec d (read_params names c.args.params.now) c.args.expr.now) × IsHeldIn names o in
    subst P (sym c.of.ensures) (c.outcome_of.ensures.value plan names d sees named)
