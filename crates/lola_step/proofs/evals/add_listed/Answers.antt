use Rattle.std.proofs.Common.{◌∙◌, ap, append_assoc, arith, get_or, sym, ◌∷◌, [], ◌++◌}
use Rattle.lola_step.proofs.Places.{listed_more, task_at}
use Rattle.lola_step.proofs.evals.add_listed.Goals as goal

pub loop-index-preserved : goal.loop-index-preserved
loop-index-preserved c = record {
  tasks = c.push_reserved.ensures.items
      ∙ (ap (λ ts. ts ++ task_at c.args.stream (get_or c.args.places.now c.loop-index.index-index 0) ∷ []) c.loop-index.invariant.tasks
      ∙ (append_assoc c.args.tasks.now.items _ _ ∙ ap (λ ts. c.args.tasks.now.items ++ ts) (sym (listed_more c.args.stream c.args.places.now c.loop-index.index-index c.loop-index-test.true))));
  tasks_len = omega (arith, c.push_reserved.ensures.len, c.loop-index.invariant.tasks_len);
  tasks_room = c.push_reserved.ensures.capacity ∙ c.loop-index.invariant.tasks_room;
}
