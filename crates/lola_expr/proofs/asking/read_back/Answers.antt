-- An earlier value reads as the content has it.
use Rattle.std.proofs.Common.{[], sym, subst}
use Rattle.lola_value.specs.declared.value.Outcome.{Outcome}
use Rattle.lola_model.specs.Store.{no_params}
use Rattle.lola_model.specs.declared.expr.Access.TheVariants as access
use Rattle.lola_model.proofs.Lookups.{back_answers}
use Rattle.lola_expr.specs.Machine.{Answers}
use Rattle.lola_expr.proofs.asking.read_back.Goals as goal

pub returns : goal.returns
returns g c =
    let remembers = g.S.StreamStore.remembers c.args.store.now in
    let seen = g.S.StreamStore.seen c.args.store.now in
    subst (λ (o : Outcome). Answers remembers seen c.args.stream (access.Offset c.args.k) [] o) (sym c.short.ensures) (record {
      value = λ names c' h a s. back_answers names h remembers seen c' s c.args.stream no_params tt c.args.k c.back_alone.result c.back_alone.ensures.living;
      kind = c.back_alone.ensures.kind;
    })
