use Rattle.std.proofs.Common.{◌∙◌, IsTrue, ap, sym, subst}
use Rattle.lola_value.specs.declared.value.Kind.{Kind}
use Rattle.lola_value.specs.Kinds.{is_outcome_of}
use Rattle.lola_model.specs.Store.{kind_in}
use Rattle.lola_instances.proofs.Asking.{layout_at, now_is}
use Rattle.lola_instances.proofs.reading.now.Goals as goal

pub now-requires-clause-steady : goal.now-requires-clause-steady
now-requires-clause-steady c = λ i x e. ((c.args.s.now.right c.args.stream c.lives_of.result.now c.lives_of.ensures).each i x e).steady

pub returns-clause-kind : goal.returns-clause-kind
returns-clause-kind c =
    subst (λ (k : Kind). IsTrue (is_outcome_of k c.now.result)) (sym (ap kind_in (layout_at c.args.s.now.streams.items c.args.stream c.lives_of.result.now c.lives_of.ensures))) c.now.ensures.kind

pub returns-clause-value : goal.returns-clause-value
returns-clause-value c = c.now.ensures.value ∙ sym (now_is c.args.s.now c.args.stream c.lives_of.result.now c.args.params.now c.lives_of.ensures)
