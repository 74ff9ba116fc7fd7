use Rattle.std.proofs.Common.{arith, inl, inr, refl, sym, ◌<◌, ◌∙◌, ◌≡◌, ◌⊎◌}
use Rattle.lola_value.specs.Naming.{read_params}
use Rattle.lola_value.specs.declared.value.FaultKind.{FaultKind}
use Rattle.lola_value.specs.declared.value.Outcome.{Outcome}
use Rattle.lola_value.specs.declared.value.Outcome.TheVariants as outcome
use Rattle.lola_value.specs.declared.value.Value.{Value}
use Rattle.lola_expr.proofs.Finding.{finds_no_value, finds_one}
use Rattle.lola_expr.proofs.Laws.{fixed_same}
use Rattle.lola_expr.proofs.keys.bind_key.Goals as goal

pub returns-in-Value-clause-key : goal.returns-in-Value-clause-key
returns-in-Value-clause-key g c = λ plan names c' sees named.
    let given = c.in-Value.ensures.value plan names c' sees named in
    let few : c.args.number < c.args.params.now.count = omega (arith, c.if-number-params.false) in (
      c.in-Value.value,
      (
        record {
          held = given.1;
          same = λ q. fixed_same plan.spec c' q (read_params names c.args.params.now) c.args.expr.now (sym c.is_fixed.ensures ∙ c.if-not-is_fixed.false) ∙ sym given.0;
        },
        few,
        c.note.ensures.adds,
      ),
    )

pub returns-in-Value-clause-finds : goal.returns-in-Value-clause-finds
returns-in-Value-clause-finds g c = (
  c.note.ensures.stays,
  λ plan names c' sees named.
      finds_one plan.spec c' (read_params names c.args.params.now) c.args.params.now.count c.args.number c.args.expr.now c.note.ensures.there.0 c.note.new.bound
      (omega (arith, c.if-number-params.false)) (sym c.is_fixed.ensures ∙ c.if-not-is_fixed.false) c.note.ensures.there.1,
)

-- what is missing, a fault or poison is no value
no_value : (r : Outcome) → (r ≡ outcome.Missing) ⊎ (((k : FaultKind) × (r ≡ outcome.Fault k)) ⊎ (r ≡ outcome.Poison)) → (v : Value) → r ≡ outcome.Value v → ⊥
no_value r (inl e) v f = cc
no_value r (inr (inl (k, e))) v f = cc
no_value r (inr (inr e)) v f = cc

pub returns-in-Missing : goal.returns-in-Missing
returns-in-Missing g c = record {
  key = λ plan names c' sees named. refl;
  finds = (
    λ i v e. e,
    λ plan names c' sees named.
        finds_no_value plan.spec c' (read_params names c.args.params.now) names c.args.params.now.count c.args.number c.args.expr.now c.eval.result c.args.bound.now
        (omega (arith, c.if-number-params.false)) (sym c.is_fixed.ensures ∙ c.if-not-is_fixed.false) (no_value c.eval.result c.in-Missing.is) (c.eval.ensures.value plan names c' sees named.0).0,
  );
}
