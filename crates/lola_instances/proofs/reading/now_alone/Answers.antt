use Rattle.std.proofs.Common.{◌∙◌, IsTrue, ap, sym, subst}
use Rattle.lola_value.specs.declared.value.Kind.{Kind}
use Rattle.lola_value.specs.Kinds.{is_outcome_of}
use Rattle.lola_model.specs.Store.{kind_in, no_params, parameters_of}
use Rattle.lola_instances.proofs.Asking.{layout_at, now_is}
use Rattle.lola_instances.proofs.reading.now_alone.Goals as goal

pub now_alone-requires-clause-steady : goal.now_alone-requires-clause-steady
now_alone-requires-clause-steady c = λ i x e. ((c.args.s.now.right c.args.stream c.lives_of.result.now c.lives_of.ensures).each i x e).steady

pub now_alone-requires-clause-none : goal.now_alone-requires-clause-none
now_alone-requires-clause-none c = sym (ap parameters_of (layout_at c.args.s.now.streams.items c.args.stream c.lives_of.result.now c.lives_of.ensures)) ∙ c.requires.none

pub returns-clause-kind : goal.returns-clause-kind
returns-clause-kind c =
    subst (λ (k : Kind). IsTrue (is_outcome_of k c.now_alone.result)) (sym (ap kind_in (layout_at c.args.s.now.streams.items c.args.stream c.lives_of.result.now c.lives_of.ensures))) c.now_alone.ensures.kind

pub returns-clause-value : goal.returns-clause-value
returns-clause-value c = c.now_alone.ensures.value ∙ sym (now_is c.args.s.now c.args.stream c.lives_of.result.now no_params c.lives_of.ensures)
