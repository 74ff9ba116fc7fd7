use Rattle.std.proofs.Common.{subst}
use Rattle.lola_expr.specs.Keys.{IsParameter}
use Rattle.lola_expr.proofs.Laws.{binds_key_left, binds_key_right}
use Rattle.lola_expr.proofs.keys.bind_equal.Goals as goal

pub returns-in-Some-clause-compared : goal.returns-in-Some-clause-compared
returns-in-Some-clause-compared g c = λ plan names c' sees left right e compares.
    let place = subst (λ o. IsParameter o c.args.a.now) c.in-Some.is c.parameter_of.ensures in
    binds_key_left plan.spec names c' c.args.params.now.count c.in-Some.number place.0 c.args.a.now c.args.b.now e place.1 compares
    c.bind_key.result c.args.bound.now c.bind_key.new.bound (c.bind_key.ensures.key plan names c' sees right)

pub returns-in-Some-parameter_of-clause-compared : goal.returns-in-Some-parameter_of-clause-compared
returns-in-Some-parameter_of-clause-compared g c = λ plan names c' sees left right e compares.
    let place = subst (λ o. IsParameter o c.args.b.now) c.in-Some-parameter_of.is c.parameter_of-2.ensures in
    binds_key_right plan.spec names c' c.args.params.now.count c.in-Some-parameter_of.number place.0 c.args.b.now c.args.a.now e place.1 compares
    c.bind_key-in-Some-parameter_of.result c.args.bound.now c.bind_key-in-Some-parameter_of.new.bound (c.bind_key-in-Some-parameter_of.ensures.key plan names c' sees left)
