use Rattle.std.proofs.Common.{◌≡◌, ◌∙◌, ap, sym, subst, arith, Option, MatchOption}
use Rattle.lola_value.specs.Naming.{AreHeld, read_params, the_values}
use Rattle.lola_value.specs.declared.value.Params.{Params}
use Rattle.lola_model.specs.Model.{when_answer}
use Rattle.lola_model.specs.Store.{SeenInstance, instances_seen}
use Rattle.lola_model.specs.declared.expr.Expr.{Expr}
use Rattle.lola_step_contents.specs.Ready.{IsWhenAskable}
use Rattle.lola_step.proofs.Elements.{Element, element}
use Rattle.lola_step.proofs.Standing.{params_held}
use Rattle.lola_step.proofs.seek.seek.Goals as goal

pub whereabouts-requires-clause-asks : goal.whereabouts-requires-clause-asks
whereabouts-requires-clause-asks g c =
    let s = g.S.StreamStore.seen c.args.store.now in
    let p = c.params_of-params.result in
    let asks = subst (λ (o : Option Expr). IsWhenAskable s p c.args.plan.now.spec.texts o) c.in-Some.is (c.requires.asks p c.params_of-params.ensures.kinds) in
    asks.asks

pub returns : goal.returns
returns g c = λ names c' shown i x at out.
    let s = g.S.StreamStore.seen c.args.store.now in
    let p = c.params_of-params.result in
    let asks = subst (λ (o : Option Expr). IsWhenAskable s p c.args.plan.now.spec.texts o) c.in-Some.is (c.requires.asks p c.params_of-params.ensures.kinds) in
    let first : Element (instances_seen s c.args.stream) 0 = element (instances_seen s c.args.stream) 0 (omega arith) in
    let same : p ≡ first.at.params = subst (λ (o : Option SeenInstance). MatchOption o ⊥ (λ y. p ≡ y.params)) first.is c.params_of-params.ensures.value in
    let held = subst (λ (q : Params). AreHeld names (the_values q)) (sym same) (params_held names (g.S.StreamStore.remembers c.args.store.now) s c' shown.stands c.args.stream 0 first.at first.is) in
    ap (when_answer c.args.plan.now.spec c' (read_params names x.params)) c.in-Some.is
    ∙ c.whereabouts.ensures c.args.plan.now names c' (record { naming = shown.naming; layout = c.requires.layout; held = held; stands = shown.stands }) (asks.named names shown.texts) i x at
    (params_held names (g.S.StreamStore.remembers c.args.store.now) s c' shown.stands c.args.stream i x at) out
