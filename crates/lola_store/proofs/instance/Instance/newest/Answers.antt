use Rattle.std.proofs.Common.{◌≡◌, ◌∙◌, sym, ap, subst, IsTrue}
use Rattle.lola_value.specs.declared.value.Outcome.TheVariants as outcome
use Rattle.lola_model.specs.Store.{is_outcome_of}
use Rattle.lola_store.specs.Instances.{shown, outcome_from_end}
use Rattle.lola_store.proofs.Recalling.{newest-missing, end_kind}
use Rattle.lola_store.proofs.instance.Instance.newest.Goals as goal

pub returns-in-Missing : goal.returns-in-Missing
returns-in-Missing c = record {
  value = λ time names values h.
      let none : shown c.args.step c.args.self.now ≡ outcome.Missing = sym c.now.ensures ∙ c.in-Missing.is in
      newest-missing time c.args.step names c.args.self.now values h c.from_last.result none (c.from_last.ensures ∙ ap (λ vs. outcome_from_end vs 1) c.as_slice.ensures.value);
  kind = λ k o h. subst (λ o. IsTrue (is_outcome_of k o)) (sym (c.from_last.ensures ∙ ap (λ vs. outcome_from_end vs 1) c.as_slice.ensures.value)) (end_kind k c.args.self.now.values.items 1 h);
}
