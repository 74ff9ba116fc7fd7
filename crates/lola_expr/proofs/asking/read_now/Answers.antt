-- The value at this step reads as the content has it.
use Rattle.std.proofs.Common.{◌∙◌, [], ap, sym, subst}
use Rattle.lola_value.specs.declared.value.Outcome.{Outcome}
use Rattle.lola_value.specs.Naming.{IsHeldIn, read_outcome}
use Rattle.lola_model.specs.Store.{no_params}
use Rattle.lola_model.specs.declared.expr.Access.TheVariants as access
use Rattle.lola_expr.specs.Machine.{Answers}
use Rattle.lola_expr.proofs.Located.{now_answers}
use Rattle.lola_expr.proofs.asking.read_now.Goals as goal

pub returns : goal.returns
returns g c =
    let remembers = g.S.StreamStore.remembers c.args.store.now in
    let seen = g.S.StreamStore.seen c.args.store.now in
    subst (λ (o : Outcome). Answers remembers seen c.args.stream access.Direct [] o) (sym c.short.ensures) (record {
      value = λ names c' h a s.
          let w = now_answers names h remembers seen c' s c.args.stream no_params tt in (
            ap (read_outcome names) c.now_alone.ensures.value ∙ w.value,
            subst (λ (o : Outcome). IsHeldIn names o) (sym c.now_alone.ensures.value) w.held,
          );
      kind = c.now_alone.ensures.kind;
    })
