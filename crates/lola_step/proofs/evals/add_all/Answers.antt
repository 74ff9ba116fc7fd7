use Rattle.std.proofs.Common.{◌∙◌, ap, append_assoc, arith, sym, ◌∷◌, [], ◌++◌}
use Rattle.lola_step.proofs.Places.{task_at, tasks_more}
use Rattle.lola_step.proofs.evals.add_all.Goals as goal

pub loop-index-preserved : goal.loop-index-preserved
loop-index-preserved c = record {
  tasks = c.push_reserved.ensures.items
      ∙ (ap (λ ts. ts ++ task_at c.args.stream c.loop-index.index ∷ []) c.loop-index.invariant.tasks
      ∙ (append_assoc c.args.tasks.now.items _ _ ∙ ap (λ ts. c.args.tasks.now.items ++ ts) (sym (tasks_more c.args.stream c.loop-index.index))));
  tasks_len = omega (arith, c.push_reserved.ensures.len, c.loop-index.invariant.tasks_len);
  tasks_room = c.push_reserved.ensures.capacity ∙ c.loop-index.invariant.tasks_room;
}
