-- The newest value reads as the content has it.
use Rattle.std.proofs.Common.{[], sym, subst}
use Rattle.lola_value.specs.declared.value.Outcome.{Outcome}
use Rattle.lola_model.specs.Store.{no_params}
use Rattle.lola_model.specs.declared.expr.Access.TheVariants as access
use Rattle.lola_expr.specs.Machine.{Answers}
use Rattle.lola_expr.proofs.Located.{newest_answers}
use Rattle.lola_expr.proofs.asking.read_newest.Goals as goal

pub returns : goal.returns
returns g c =
    let remembers = g.S.StreamStore.remembers c.args.store.now in
    let seen = g.S.StreamStore.seen c.args.store.now in
    subst (λ (o : Outcome). Answers remembers seen c.args.stream access.Hold [] o) (sym c.short.ensures) (record {
      value = λ names c' h a s.
          let w = newest_answers names h remembers seen c' s c.args.stream no_params tt c.newest_alone.result c.newest_alone.ensures.living in (w.value, w.held);
      kind = c.newest_alone.ensures.kind;
    })
