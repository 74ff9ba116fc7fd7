-- The outcome of a condition is that of its expression, where there is one.
use Rattle.std.proofs.Common.{◌≡◌, subst, sym, Option}
use Rattle.lola_value.specs.Naming.{IsHeldIn, read_outcome, read_params}
use Rattle.lola_model.specs.Model.{when_answer}
use Rattle.lola_model.specs.declared.expr.Expr.{Expr}
use Rattle.lola_step_contents.specs.Ready.{IsWhenAskable}
use Rattle.lola_step.proofs.clauses.condition.Goals as goal

pub returns-in-Some : goal.returns-in-Some
returns-in-Some g c =
    let s = g.S.StreamStore.seen c.args.store.now in
    let p = c.args.params.now in
    let plan = c.args.plan.now in
    let asks = subst (λ (o : Option Expr). IsWhenAskable s p plan.spec.texts o) c.in-Some.is c.requires.asks in
    record {
      answer = λ names content sees texts.
          subst (λ (o : Option Expr). (read_outcome names c.outcome_of.result ≡ when_answer plan.spec content (read_params names p) o) × IsHeldIn names c.outcome_of.result)
          (sym c.in-Some.is) (c.outcome_of.ensures.value plan names content sees (asks.named names texts));
    }
