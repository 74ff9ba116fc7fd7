use Rattle.std.proofs.Common.{◌-◌, ◌≤◌, IsTrue, ap, sym, subst}
use Rattle.lola_value.specs.declared.value.Kind.{Kind}
use Rattle.lola_value.specs.Kinds.{is_outcome_of}
use Rattle.lola_model.specs.Store.{kind_in, kept_in}
use Rattle.lola_instances.proofs.Asking.{layout_at, back_told}
use Rattle.lola_instances.proofs.reading.back.Goals as goal

pub back-requires-clause-steady : goal.back-requires-clause-steady
back-requires-clause-steady c = λ i x e. ((c.args.s.now.right c.args.stream c.lives_of.result.now c.lives_of.ensures).each i x e).steady

pub returns-clause-kind : goal.returns-clause-kind
returns-clause-kind c =
    subst (λ (k : Kind). IsTrue (is_outcome_of k c.back.result)) (sym (ap kind_in (layout_at c.args.s.now.streams.items c.args.stream c.lives_of.result.now c.lives_of.ensures))) c.back.ensures.kind

pub back-requires-clause-k_high : goal.back-requires-clause-k_high
back-requires-clause-k_high c = subst (λ o. c.args.k ≤ kept_in o - 1) (layout_at c.args.s.now.streams.items c.args.stream c.lives_of.result.now c.lives_of.ensures) c.requires.k_high

pub returns-clause-living : goal.returns-clause-living
returns-clause-living c = back_told c.args.s.now c.args.stream c.lives_of.result.now c.args.params.now c.back.result c.lives_of.ensures c.args.k c.back.ensures.living
