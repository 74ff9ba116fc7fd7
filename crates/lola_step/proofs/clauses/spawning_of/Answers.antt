-- A spawn clause, asked for no instance.
use Rattle.std.proofs.Common.{◌∙◌, ap, sym, subst, List, map}
use Rattle.lola_value.specs.declared.value.Kind.{Kind}
use Rattle.lola_value.specs.declared.value.Params.{Params}
use Rattle.lola_model.specs.declared.expr.Expr.{Expr}
use Rattle.lola_model.specs.Typing.{noted}
use Rattle.lola_step_contents.specs.Ready.{IsWhenAskable}
use Rattle.lola_step.specs.Clauses.{AreExpressions, IsWellNamed}
use Rattle.lola_step.proofs.Asked.{kinds_are, none_is, of_their_own}
use Rattle.lola_step.proofs.clauses.spawning_of.Goals as goal

pub condition-requires-clause-asks : goal.condition-requires-clause-asks
condition-requires-clause-asks g c =
    subst (λ (p : Params). IsWhenAskable (g.S.StreamStore.seen c.args.store.now) p c.args.plan.now.spec.texts c.args.clause.now.when)
    (sym (none_is c.none-none.result c.none-none.ensures.count c.none-none.ensures.well_formed)) c.requires.asks.when

pub named-requires-clause-asks : goal.named-requires-clause-asks
named-requires-clause-asks g c =
    let s = g.S.StreamStore.seen c.args.store.now in
    let texts = c.args.plan.now.spec.texts in
    subst (AreExpressions s texts) (sym c.as_slice.ensures) (of_their_own s texts c.args.stream.now.parameters c.args.clause.now.with c.requires.asks.with)

pub returns-in-Value-Bool-true-clause-fits : goal.returns-in-Value-Bool-true-clause-fits
returns-in-Value-Bool-true-clause-fits g c =
    let kinds = kinds_are (g.S.StreamStore.seen c.args.store.now) c.args.plan.now.spec.texts c.args.stream.now.parameters c.args.clause.now.with c.requires.asks.with c.requires.named in
    subst (λ (ks : List Kind). IsWellNamed ks c.named.result) (ap (λ (es : List Expr). map noted es) c.as_slice.ensures ∙ kinds) c.named.ensures.fits
