-- The values of expressions, one after the other.
use Rattle.std.proofs.Common.{rules, arith, ◌∷◌, sym, subst, List}
use Rattle.lola_value.specs.declared.value.Params.{Params}
use Rattle.lola_value.specs.declared.value.Value.{Value}
use Rattle.lola_value.specs.declared.value.Outcome.TheVariants as outcome
use Rattle.lola_value.specs.Naming.{AreHeld, read_outcome, the_values}
use Rattle.lola_expr.specs.Evaluation.{IsDenoted}
use Rattle.lola_step.specs.Clauses.{AreExpressions}
use Rattle.lola_step.proofs.Asked.{named_first, named_later, named_more, no_value}
use Rattle.lola_step.proofs.clauses.+gather.Goals as goal

pub gather-requires : goal.gather-requires
gather-requires g t c κs within =
    let n = c.in-Some.ensures.cases.1 in
    let d = c.decreases in
    let few = c.requires.few in
    let asks = subst (AreExpressions (g.S.StreamStore.seen c.args.store.now) c.args.plan.now.spec.texts) c.in-Some.ensures.cases.0 c.requires.asks in
    (omega (arith, d, n), (search rules, (c.requires.running, (c.requires.none, (omega (arith, n, few), asks.1)))))

pub returns-in-Ok-clause-ok : goal.returns-in-Ok-clause-ok
returns-in-Ok-clause-ok g t c = λ names c' h n.
    let asks = subst (AreExpressions (g.S.StreamStore.seen c.args.store.now) c.args.plan.now.spec.texts) c.in-Some.ensures.cases.0 c.requires.asks in
    let d = subst (λ (p : Params). IsDenoted (g.S.StreamStore.remembers c.args.store.now) (g.S.StreamStore.seen c.args.store.now) p c.in-Some.expr.now (outcome.Value c.in-Value.v)) c.requires.none c.in-Value.ensures.value in
    let a = d c.args.plan.now names c' h (asks.0.named names n) in
    let b = c.in-Ok.ensures.ok names c' h n in (
      named_more c.args.plan.now.spec names c' c.args.exprs.now c.in-Some.others.now c.in-Some.expr.now c.in-Value.v c.in-Ok.given c.led_by.result c.in-Some.ensures.cases.0 a.0 b.0 c.led_by.ensures.values,
      subst (λ (vs : List Value). AreHeld names vs) {x = c.in-Value.v ∷ the_values c.in-Ok.given} (sym c.led_by.ensures.values) (a.1, b.1),
    )

pub returns-in-Err-clause-err : goal.returns-in-Err-clause-err
returns-in-Err-clause-err g t c = λ names c' h n.
    let asks = subst (AreExpressions (g.S.StreamStore.seen c.args.store.now) c.args.plan.now.spec.texts) c.in-Some.ensures.cases.0 c.requires.asks in
    let d = subst (λ (p : Params). IsDenoted (g.S.StreamStore.remembers c.args.store.now) (g.S.StreamStore.seen c.args.store.now) p c.in-Some.expr.now (outcome.Value c.in-Value.v)) c.requires.none c.in-Value.ensures.value in
    let a = d c.args.plan.now names c' h (asks.0.named names n) in
    named_later c.args.plan.now.spec names c' c.args.exprs.now c.in-Some.others.now c.in-Some.expr.now c.in-Value.v (read_outcome names c.in-Err.outcome) c.in-Some.ensures.cases.0 a.0 (c.in-Err.ensures.err names c' h n)

pub returns-in_default : goal.returns-in_default
returns-in_default g t c =
    record {
      kinds = tt;
      places = tt;
      given = tt;
      ok = tt;
      err = λ names c' h n.
          let asks = subst (AreExpressions (g.S.StreamStore.seen c.args.store.now) c.args.plan.now.spec.texts) c.in-Some.ensures.cases.0 c.requires.asks in
          let d = subst (λ (p : Params). IsDenoted (g.S.StreamStore.remembers c.args.store.now) (g.S.StreamStore.seen c.args.store.now) p c.in-Some.expr.now c.outcome_of-first.result) c.requires.none c.outcome_of-first.ensures.value in
          named_first c.args.plan.now.spec names c' c.args.exprs.now c.in-Some.others.now c.in-Some.expr.now c.outcome_of-first.result c.in-Some.ensures.cases.0 c.in_default.not-Value (d c.args.plan.now names c' h (asks.0.named names n)).0;
      none = no_value c.outcome_of-first.result c.in_default.not-Value;
    }
