use Rattle.std.proofs.Common.{◌≡◌, ◌≤◌, IfSome, List, None, Option, Some, [], arith, length, map, suc, take, zero, ◌∷◌}
use Rattle.lola_value.specs.Naming.{the_values}
use Rattle.lola_value.specs.declared.value.Params.{Params}
use Rattle.lola_value.specs.declared.value.Value.{Value}
use Rattle.lola_expr.specs.Keys.{IsFalseForOthers, keys_of}
use Rattle.lola_expr.proofs.Elsewhere.{NoneBound, adds_of, false_elsewhere}
use Rattle.lola_expr.proofs.Finding.{all_are_noted}
use Rattle.lola_expr.proofs.sought.wanted.Goals as goal

four_none : NoneBound (None ∷ None ∷ None ∷ None ∷ [])
four_none zero v h = absurd (cc)
four_none (suc zero) v h = absurd (cc)
four_none (suc (suc zero)) v h = absurd (cc)
four_none (suc (suc (suc zero))) v h = absurd (cc)
four_none (suc (suc (suc (suc i)))) v h = absurd (cc)

-- what is known of parameters that are bound is known of the result
of_bound : (P : Params → Type 0) (bound : List (Option Value)) (o : Option Params) → IfSome o (λ p. map Some (the_values p) ≡ bound) → IfSome o (λ p. p.count ≡ length bound)
    → ((p : Params) → map Some (the_values p) ≡ bound → p.count ≡ length bound → P p) → IfSome o P
of_bound P bound None h g k = tt
of_bound P bound (Some p) h g k = k p h g

pub returns-clause-others : goal.returns-clause-others
returns-clause-others g c =
    let count = c.args.params.now.count in
    let old : List (Option Value) = None ∷ None ∷ None ∷ None ∷ [] in
    let new = c.bind-is_whole.new.bound in
    let room : count ≤ length new = omega (arith, c.requires.count, c.bind-is_whole.auto.bound) in
    of_bound (IsFalseForOthers (g.S.StreamStore.remembers c.args.store.now) (g.S.StreamStore.seen c.args.store.now) c.args.params.now c.args.when.now) (take count new) c.params_bound.result
    c.params_bound.ensures.values c.params_bound.ensures.count
    (λ p bound counted plan names c' sees named x long held other.
    let adds = adds_of plan.spec names c' count c.args.when.now c.bind-is_whole.result old new (c.bind-is_whole.ensures.bound plan names c' sees named) in
    false_elsewhere plan.spec names c' count c.args.when.now old new sees.naming four_none adds p bound counted c.requires.count room x long other held)

pub returns-clause-told : goal.returns-clause-told
returns-clause-told g c = λ keyed.
    let plan = keyed.0 in
    let names = keyed.1 in
    let content = keyed.2 in
    let h = keyed.3 in
    let count = c.args.params.now.count in
    let new = c.bind-is_whole.new.bound in
    let room : count ≤ length new = omega (arith, c.requires.count, c.bind-is_whole.auto.bound) in
    let found = c.bind-is_whole.ensures.finds.1 plan names content h.0 (h.1, tt) h.2 in
    c.params_bound.ensures.told (all_are_noted count (keys_of count c.args.when.now) new room found.1 h.3)
