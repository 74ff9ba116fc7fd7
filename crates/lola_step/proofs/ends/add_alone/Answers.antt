use Rattle.std.proofs.Common.{◌∙◌, ap, arith, ◌++◌, []}
use Rattle.lola_value.specs.declared.value.Params.{Params}
use Rattle.lola_step.specs.Found.{add_step_value}
use Rattle.lola_step.proofs.Valued.{with_end, with_step}
use Rattle.lola_step.proofs.ends.add_alone.Goals as goal

pub loop-outcome-preserved : goal.loop-outcome-preserved
loop-outcome-preserved c =
    let i = c.loop-outcome.outcome-index in
    let os = c.args.results.now in
    record {
      bare = c.add_bare.ensures.bare ∙ c.loop-outcome.invariant.bare;
      items = with_step c.args.stream c.args.bare.now.params os i c.loop-outcome.step_values.items _ c.loop-outcome.invariant.items c.outcome-item.result c.add_bare.new.step_values.items c.loop-outcome-test.true
          (c.add_bare.ensures.items
          ∙ (ap (λ (p : Params). c.loop-outcome.step_values.items ++ add_step_value c.args.stream p c.outcome-item.result []) c.loop-outcome.invariant.bare
          ∙ ap (λ o. c.loop-outcome.step_values.items ++ add_step_value c.args.stream c.args.bare.now.params o []) c.outcome-item.is));
      count = omega (arith, c.add_bare.ensures.count, c.loop-outcome.invariant.count);
      capacity = c.add_bare.ensures.capacity ∙ c.loop-outcome.invariant.capacity;
    }

pub returns-clause-items : goal.returns-clause-items
returns-clause-items c =
    with_end c.args.stream c.args.bare.now.params c.args.results.now c.loop-outcome.outcome-index c.loop-outcome.step_values.items _ c.loop-outcome.invariant.items (omega arith)
