use Rattle.std.proofs.Common.{◌∙◌, List, arith, refl, subst}
use Rattle.std.proofs.lemmas.List.{take_all}
use Rattle.std.proofs.lemmas.Option.{slice_get-get_or}
use Rattle.lola_step.specs.Given.{AreAnswered}
use Rattle.lola_step.specs.declared.tasks.Task.{Task}
use Rattle.lola_step.proofs.OneByOne.{first_task}
use Rattle.lola_step.proofs.Results.{answered_first, answered_more}
use Rattle.lola_step.proofs.evals.answer_in_turn.Goals as goal

pub loop-i-init : goal.loop-i-init
loop-i-init g c = record {
  answered = answered_first c.args.plan.now c.args.moment.now (g.S.StreamStore.remembers c.args.store.now) (g.S.StreamStore.seen c.args.store.now) c.args.results.now.items;
  count = omega arith;
  capacity = refl;
}

pub task_outcome-requires-clause-ready : goal.task_outcome-requires-clause-ready
task_outcome-requires-clause-ready g c = c.requires.ready c.loop-i.i _ (slice_get-get_or c.args.tasks.now c.loop-i.i first_task c.loop-i-test.true)

pub loop-i-preserved : goal.loop-i-preserved
loop-i-preserved g c = record {
  answered = answered_more c.args.plan.now c.args.moment.now (g.S.StreamStore.remembers c.args.store.now) (g.S.StreamStore.seen c.args.store.now) c.args.tasks.now c.loop-i.i first_task
      c.args.results.now.items c.loop-i.results.items c.push_reserved.new.self.items c.task_outcome.result c.loop-i-test.true c.loop-i.invariant.answered c.task_outcome.ensures c.push_reserved.ensures.items;
  count = omega (arith, c.push_reserved.ensures.len, c.loop-i.invariant.count);
  capacity = c.push_reserved.ensures.capacity ∙ c.loop-i.invariant.capacity;
}

pub returns-clause-answered : goal.returns-clause-answered
returns-clause-answered g c =
    let P : List Task → Type 0 = λ ts. AreAnswered c.args.plan.now c.args.moment.now (g.S.StreamStore.remembers c.args.store.now) (g.S.StreamStore.seen c.args.store.now) ts c.args.results.now.items c.loop-i.results.items in
    subst P (take_all c.loop-i.i c.args.tasks.now c.loop-i-test.false) c.loop-i.invariant.answered
