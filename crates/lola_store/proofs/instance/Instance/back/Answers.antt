use Rattle.std.proofs.Common.{◌≡◌, ◌∙◌, ◌+◌, sym, ap, subst, IsTrue}
use Rattle.lola_value.specs.declared.value.Value.{Value}
use Rattle.lola_value.specs.declared.value.Outcome.TheVariants as outcome
use Rattle.lola_model.specs.Store.{is_outcome_of}
use Rattle.lola_store.specs.Instances.{shown, outcome_from_end}
use Rattle.lola_store.proofs.Recalling.{back-value, back-else, end_kind}
use Rattle.lola_store.proofs.instance.Instance.back.Goals as goal

pub returns-in-Value : goal.returns-in-Value
returns-in-Value c = record {
  value = λ time names values h.
      let some : shown c.args.step c.args.self.now ≡ outcome.Value c.in-Value.field-0 = sym c.now.ensures ∙ c.in-Value.is in
      back-value time c.args.step names c.args.self.now values h c.args.k c.from_last.result c.in-Value.field-0 some c.requires (c.from_last.ensures ∙ ap (λ vs. outcome_from_end vs (c.args.k + 1)) c.as_slice.ensures.value);
  kind = λ k h. subst (λ o. IsTrue (is_outcome_of k o)) (sym (c.from_last.ensures ∙ ap (λ vs. outcome_from_end vs (c.args.k + 1)) c.as_slice.ensures.value)) (end_kind k c.args.self.now.values.items (c.args.k + 1) h);
}

pub returns-in_default : goal.returns-in_default
returns-in_default c = record {
  value = λ time names values h.
      let none = λ (v : Value) (e : shown c.args.step c.args.self.now ≡ outcome.Value v). c.in_default.not-Value v (c.now.ensures ∙ e) in
      back-else time c.args.step names c.args.self.now values h c.args.k c.from_last-in_default.result none (c.from_last-in_default.ensures ∙ ap (λ vs. outcome_from_end vs c.args.k) c.as_slice-in_default.ensures.value);
  kind = λ k h. subst (λ o. IsTrue (is_outcome_of k o)) (sym (c.from_last-in_default.ensures ∙ ap (λ vs. outcome_from_end vs c.args.k) c.as_slice-in_default.ensures.value)) (end_kind k c.args.self.now.values.items c.args.k h);
}
