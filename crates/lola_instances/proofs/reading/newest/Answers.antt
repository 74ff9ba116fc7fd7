use Rattle.std.proofs.Common.{IsTrue, ap, sym, subst}
use Rattle.lola_value.specs.declared.value.Kind.{Kind}
use Rattle.lola_value.specs.Kinds.{is_outcome_of}
use Rattle.lola_model.specs.Store.{kind_in}
use Rattle.lola_instances.proofs.Asking.{layout_at, newest_told}
use Rattle.lola_instances.proofs.reading.newest.Goals as goal

pub newest-requires-clause-steady : goal.newest-requires-clause-steady
newest-requires-clause-steady c = λ i x e. ((c.args.s.now.right c.args.stream c.lives_of.result.now c.lives_of.ensures).each i x e).steady

pub returns-clause-kind : goal.returns-clause-kind
returns-clause-kind c =
    subst (λ (k : Kind). IsTrue (is_outcome_of k c.newest.result)) (sym (ap kind_in (layout_at c.args.s.now.streams.items c.args.stream c.lives_of.result.now c.lives_of.ensures))) c.newest.ensures.kind

pub returns-clause-living : goal.returns-clause-living
returns-clause-living c = newest_told c.args.s.now c.args.stream c.lives_of.result.now c.args.params.now c.newest.result c.lives_of.ensures c.newest.ensures.living
