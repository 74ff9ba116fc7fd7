use Rattle.std.proofs.Common.{◌∙◌, ◌++◌, List, ap, append-nil, false, sym}
use Rattle.lola_step.specs.declared.step_value.StepValue.{StepValue}
use Rattle.lola_step.proofs.Valued.{none_asked}
use Rattle.lola_step.proofs.ends.add_asked.Goals as goal

pub returns-then-is_empty-clause-items : goal.returns-then-is_empty-clause-items
returns-then-is_empty-clause-items g c =
    sym (append-nil c.args.step_values.now.items)
    ∙ ap (λ (vs : List StepValue). c.args.step_values.now.items ++ vs)
    (sym (none_asked (g.S.StreamStore.seen c.args.store.now) c.args.number c.args.tasks.now c.args.results.now c.args.span false (c.is_empty.ensures c.if-is_empty.true)))
