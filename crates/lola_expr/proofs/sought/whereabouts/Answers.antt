use Rattle.std.proofs.Common.{◌∙◌, slice_get, sym}
use Rattle.lola_value.specs.Naming.{the_values}
use Rattle.lola_model.specs.Store.{parameters_of}
use Rattle.lola_expr.proofs.Elsewhere.{as_many, long_values}
use Rattle.lola_expr.proofs.sought.whereabouts.Goals as goal

pub returns-in-Some : goal.returns-in-Some
returns-in-Some g c = λ plan names c' sees named i x at held out.
    let kinds = parameters_of (slice_get (g.S.StreamStore.seen c.args.store.now).layout.streams c.args.stream) in
    let others = c.find.ensures i x at out in
    let long = as_many kinds (the_values x.params) others.kinds_are ∙ (sym (as_many kinds (the_values c.args.params.now) c.requires.kinds) ∙ long_values c.args.params.now c.requires.count) in
    c.in-Some.ensures.others plan names c' sees named x.params long held others.other
