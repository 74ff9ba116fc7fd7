use Rattle.std.proofs.Common.{◌∙◌, Some, None, ap, subst, sym}
use Rattle.lola_step.specs.Ends.{FindsClosings, FindsFault}
use Rattle.lola_step.specs.Found.{NoneFaulted, has_fault}
use Rattle.lola_step.proofs.Endings.{fails_by_closing, faults_by_evaluation, is_done, same_fault, same_spans, same_step_values, same_within}
use Rattle.lola_step.proofs.step.conclude.Goals as goal

pub fault_of_step-requires-clause-within : goal.fault_of_step-requires-clause-within
fault_of_step-requires-clause-within g c =
    same_within c.args.scratch.now.results.items c.deref-3.result.now c.args.scratch.now.spans.items c.deref-2.result.now c.deref-3.ensures.value c.deref-2.ensures.value
    (λ n p at. (c.requires.within n p at).within)

pub fault_of_step-requires-clause-faultless : goal.fault_of_step-requires-clause-faultless
fault_of_step-requires-clause-faultless g c none =
    let faultless = c.requires.faultless none in (
      subst NoneFaulted (sym c.deref.ensures.value) faultless.0,
      ap has_fault c.deref-3.ensures.value ∙ faultless.1,
    )

pub returns-in-Some-clause-concludes : goal.returns-in-Some-clause-concludes
returns-in-Some-clause-concludes g c names rows step run moment noted stands =
    let now = c.args.scratch.now in
    let finds : FindsFault c.args.plan.now c.deref.result.now c.deref-2.result.now now.tasks.items c.deref-3.result.now (Some (c.in-Some.stream, c.in-Some.kind)) = c.in-Some.ensures now.tasks.items in
    faults_by_evaluation c.args.plan.now c.args.moment.now now.spawn_results.items now.spans.items now.tasks.items now.results.items c.in-Some.stream c.in-Some.kind
    (same_fault c.args.plan.now now.spawn_results.items c.deref.result.now now.spans.items c.deref-2.result.now now.tasks.items now.results.items c.deref-3.result.now (Some (c.in-Some.stream, c.in-Some.kind))
    c.deref.ensures.value c.deref-2.ensures.value c.deref-3.ensures.value finds)
    names rows step run noted

pub returns-in-Some-find_closings-clause-concludes : goal.returns-in-Some-find_closings-clause-concludes
returns-in-Some-find_closings-clause-concludes g c names rows step run moment noted stands =
    let now = c.args.scratch.now in
    let none : FindsFault c.args.plan.now c.deref.result.now c.deref-2.result.now now.tasks.items c.deref-3.result.now None = c.in_default.ensures now.tasks.items in
    let stream = c.in-Some-find_closings.stream in
    let kind = c.in-Some-find_closings.kind in
    let finds : FindsClosings c.args.plan.now c.args.moment.now (g.S.StreamStore.remembers c.args.store.now) (g.S.StreamStore.seen c.args.store.now) (Some (stream, kind)) c.find_closings.new.closing.items =
    c.in-Some-find_closings.ensures.finds in
    fails_by_closing c.args.plan.now c.args.moment.now now.spawn_results.items now.spans.items now.tasks.items now.results.items
    (g.S.StreamStore.remembers c.args.store.now) (g.S.StreamStore.seen c.args.store.now)
    (same_fault c.args.plan.now now.spawn_results.items c.deref.result.now now.spans.items c.deref-2.result.now now.tasks.items now.results.items c.deref-3.result.now None
    c.deref.ensures.value c.deref-2.ensures.value c.deref-3.ensures.value none)
    stream kind c.find_closings.new.closing.items finds names rows step run moment noted stands

pub collect-requires-clause-within : goal.collect-requires-clause-within
collect-requires-clause-within g c =
    same_spans (g.S.StreamStore.seen c.args.store.now) c.args.scratch.now.tasks.items c.deref-5.result.now c.args.scratch.now.results.items c.deref-6.result.now
    c.args.scratch.now.spans.items c.deref-4.result.now c.deref-5.ensures.value c.deref-6.ensures.value c.deref-4.ensures.value c.requires.within

pub returns-clause-concludes : goal.returns-clause-concludes
returns-clause-concludes g c names rows step run moment noted stands =
    let now = c.args.scratch.now in
    let none : FindsFault c.args.plan.now c.deref.result.now c.deref-2.result.now now.tasks.items c.deref-3.result.now None = c.in_default.ensures now.tasks.items in
    let finds : FindsClosings c.args.plan.now c.args.moment.now (g.S.StreamStore.remembers c.args.store.now) (g.S.StreamStore.seen c.args.store.now) None c.find_closings.new.closing.items =
    c.in_default-find_closings.ensures.finds in
    is_done c.args.plan.now c.args.moment.now now.spawn_results.items now.spans.items now.tasks.items now.results.items
    (g.S.StreamStore.remembers c.args.store.now) (g.S.StreamStore.seen c.args.store.now)
    (same_fault c.args.plan.now now.spawn_results.items c.deref.result.now now.spans.items c.deref-2.result.now now.tasks.items now.results.items c.deref-3.result.now None
    c.deref.ensures.value c.deref-2.ensures.value c.deref-3.ensures.value none)
    c.args.show (g.S.StreamStore.remembers c.close_all.new.store) (g.S.StreamStore.seen c.close_all.new.store)
    c.find_closings.new.closing.items c.deref-7.result.now c.collect.new.step_values.items finds c.deref-7.ensures.value
    (same_step_values c.args.plan.now c.args.show now.spans.items c.deref-4.result.now now.tasks.items c.deref-5.result.now now.results.items c.deref-6.result.now
    (g.S.StreamStore.remembers c.args.store.now) (g.S.StreamStore.seen c.args.store.now) c.collect.new.step_values.items
    c.deref-4.ensures.value c.deref-5.ensures.value c.deref-6.ensures.value c.collect.ensures.values)
    c.close_all.ensures.stands names rows step run moment noted stands

pub collect-requires-clause-duties : goal.collect-requires-clause-duties
collect-requires-clause-duties g c = c.shown.ensures c.args.plan.now c.requires.made.schedule
