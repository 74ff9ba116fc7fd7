use Rattle.std.proofs.Common.{◌∙◌, ◌++◌, [], ap, arith, slice_index_or}
use Rattle.std.proofs.lemmas.Option.{slice_get-get_or}
use Rattle.lola_step.specs.Found.{add_step_value}
use Rattle.lola_step.specs.Tasks.{params_given}
use Rattle.lola_step.proofs.OneByOne.{first_task}
use Rattle.lola_step.proofs.Valued.{asked_lives, values_end, values_step}
use Rattle.lola_step.proofs.ends.add_values.Goals as goal

pub add_value-requires-clause-lives : goal.add_value-requires-clause-lives
add_value-requires-clause-lives g c =
    let i = c.loop-i.i in
    asked_lives c.args.stream 0 _ c.args.tasks.now c.requires.asked i (slice_index_or c.args.tasks.now i (record { stream = 0; index = 0 })) (slice_get-get_or c.args.tasks.now i _ c.loop-i-test.true)

pub loop-i-preserved : goal.loop-i-preserved
loop-i-preserved g c =
    let s = g.S.StreamStore.seen c.args.store.now in
    record {
      items = values_step s c.args.stream c.args.tasks.now c.args.results.now c.loop-i.i c.loop-i.step_values.items _ c.loop-i.invariant.items _ c.index-results-i.result c.add_value.new.step_values.items
          c.loop-i-test.true (omega arith)
          (c.add_value.ensures.items ∙ ap (λ o. c.loop-i.step_values.items ++ add_step_value c.args.stream (params_given s c.args.stream (slice_index_or c.args.tasks.now c.loop-i.i first_task).index) o []) c.index-results-i.is);
      fit = λ f. c.add_value.ensures.fit (c.loop-i.invariant.fit f);
      count = omega (arith, c.add_value.ensures.count, c.loop-i.invariant.count);
      capacity = c.add_value.ensures.capacity ∙ c.loop-i.invariant.capacity;
    }

pub returns-clause-items : goal.returns-clause-items
returns-clause-items g c =
    values_end (g.S.StreamStore.seen c.args.store.now) c.args.stream c.args.tasks.now c.args.results.now c.loop-i.i c.loop-i.step_values.items _ c.loop-i.invariant.items (omega arith)
