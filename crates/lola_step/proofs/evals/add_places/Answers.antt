use Rattle.std.proofs.Common.{◌∙◌, ap, append_assoc, arith, ◌∷◌, [], ◌++◌}
use Rattle.std.proofs.lemmas.List.{replicate_more}
use Rattle.lola_value.specs.declared.value.Outcome.TheVariants as outcome
use Rattle.lola_step.proofs.evals.add_places.Goals as goal

pub loop-made-preserved : goal.loop-made-preserved
loop-made-preserved c = record {
  items = c.push_reserved.ensures.items
      ∙ (ap (λ o. c.loop-made.results.items ++ o ∷ []) c.missing.ensures ∙ ap (λ rs. rs ++ outcome.Missing ∷ []) c.loop-made.invariant.items
      ∙ (append_assoc c.args.results.now.items _ _ ∙ ap (λ rs. c.args.results.now.items ++ rs) (replicate_more c.loop-made._made outcome.Missing)));
  count = omega (arith, c.push_reserved.ensures.len, c.loop-made.invariant.count);
  capacity = c.push_reserved.ensures.capacity ∙ c.loop-made.invariant.capacity;
}
