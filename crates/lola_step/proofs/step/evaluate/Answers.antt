use Rattle.std.proofs.Common.{◌≡◌, ◌+◌, ◌++◌, ◌||◌, refl, ap, sym, subst, ◌∙◌, List, length, take, drop, arith}
use Rattle.std.proofs.lemmas.List.{take_at}
use Rattle.std.proofs.lemmas.Bool.{or_parts}
use Rattle.lola_step_contents.specs.Stages.{eval_stage}
use Rattle.lola_step.specs.Evals.{EvalsTake, IsReadyFor, ShowsMore}
use Rattle.lola_step.specs.Found.{NoneFaulted, has_fault}
use Rattle.lola_step.specs.Schedules.{IsScheduleOf}
use Rattle.lola_step.specs.Sought.{AreUnsought}
use Rattle.lola_step.specs.declared.spawn_result.SpawnResult.{SpawnResult}
use Rattle.lola_step.specs.declared.schedule.Schedule.{Schedule}
use Rattle.lola_step.specs.declared.scratch.Span.{Span}
use Rattle.lola_step.proofs.Evaluation.{IsSoFar, all_layers, first_layer, next_layer, spans_then}
use Rattle.lola_step.proofs.Faultless.{fine_first}
use Rattle.lola_step.proofs.step.evaluate.Goals as goal

pub loop-layer-init : goal.loop-layer-init
loop-layer-init g c = record {
  so_far =
      first_layer c.args.plan.now c.args.moment.now (g.S.StreamStore.remembers c.args.store.now) (g.S.StreamStore.seen c.args.store.now)
      c.args.scratch.now.spawn_results.items c.args.scratch.now.spans.items c.args.scratch.now.places c.args.scratch.now.tasks c.args.scratch.now.results
      c.requires.at c.requires.made.spawn_results c.requires.fresh.spawn_results c.requires.made.spans c.requires.fresh.spans
      c.requires.fresh.tasks c.requires.fresh.results c.requires.fresh.places_room c.requires.fresh.tasks_room c.requires.fresh.results_room;
  faultless = λ none. (fine_first c.args.scratch.now.spawn_results.items c.requires.fresh.spawn_results, ap has_fault c.requires.fresh.results);
  known = c.none-last.ensures c.args.moment.now;
  spawn_results = refl;
  sought = refl;
  unsought = c.requires.made.unsought;
  layers = refl;
  schedule = refl;
  code = refl;
  closing = refl;
  step_values = refl;
  places_room = refl;
  tasks_room = refl;
  results_room = refl;
}

pub eval_layer-given-requires-clause-spans : goal.eval_layer-given-requires-clause-spans
eval_layer-given-requires-clause-spans g c κs within =
    subst
    (λ ps. IsReadyFor c.args.plan.now (eval_stage (length c.args.plan.now.spec.streams) c.loop-layer.layer) (g.S.StreamStore.seen c.spawn_layer-failed.new.store) c.loop-layer.scratch.tasks.items c.loop-layer.scratch.results.items ps)
    (sym c.deref_mut-in-loop-layer-2.ensures.value)
    (spans_then c.args.plan.now c.loop-layer.layer (g.S.StreamStore.seen c.loop-layer.store) (g.S.StreamStore.seen c.spawn_layer-failed.new.store)
    c.loop-layer.scratch.tasks.items c.loop-layer.scratch.results.items c.loop-layer.scratch.spans.items c.spawn_layer-failed.ensures.goes_on c.loop-layer.invariant.so_far.ready)

pub eval_layer-given-requires-clause-sought : goal.eval_layer-given-requires-clause-sought
eval_layer-given-requires-clause-sought g c κs within =
    ap length c.deref_mut-in-loop-layer-3.ensures.value ∙ (c.loop-layer.invariant.sought ∙ c.requires.made.sought)

pub eval_layer-given-requires-clause-unsought : goal.eval_layer-given-requires-clause-unsought
eval_layer-given-requires-clause-unsought g c κs within =
    subst (AreUnsought c.args.plan.now) (sym c.deref_mut-in-loop-layer-3.ensures.value) c.loop-layer.invariant.unsought

pub spawns_in-requires : goal.spawns_in-requires
spawns_in-requires g c =
    omega (arith, c.loop-layer-test.true, c.loop-layer.invariant.layers, c.requires.made.scheduled, ap (λ (s : Schedule). length s.layers.items) c.loop-layer.invariant.schedule)

pub spawn_layer-failed-requires-clause-duties : goal.spawn_layer-failed-requires-clause-duties
spawn_layer-failed-requires-clause-duties g c =
    c.spawns_in.ensures c.args.plan.now (subst (IsScheduleOf c.args.plan.now) (sym c.loop-layer.invariant.schedule) c.requires.made.schedule)

pub evals_in-requires : goal.evals_in-requires
evals_in-requires g c =
    omega (arith, c.loop-layer-test.true, c.loop-layer.invariant.layers, c.requires.made.scheduled, ap (λ (s : Schedule). length s.layers.items) c.loop-layer.invariant.schedule)

pub eval_layer-given-requires-clause-duties : goal.eval_layer-given-requires-clause-duties
eval_layer-given-requires-clause-duties g c κs within =
    c.evals_in.ensures c.args.plan.now (subst (IsScheduleOf c.args.plan.now) (sym c.loop-layer.invariant.schedule) c.requires.made.schedule)

pub seeks_in-requires : goal.seeks_in-requires
seeks_in-requires g c =
    omega (arith, c.loop-layer-test.true, c.loop-layer.invariant.layers, c.requires.made.scheduled, ap (λ (s : Schedule). length s.layers.items) c.loop-layer.invariant.schedule)

pub eval_layer-given-requires-clause-seeks : goal.eval_layer-given-requires-clause-seeks
eval_layer-given-requires-clause-seeks g c κs within =
    c.seeks_in.ensures c.args.plan.now (subst (IsScheduleOf c.args.plan.now) (sym c.loop-layer.invariant.schedule) c.requires.made.schedule)

pub eval_layer-given-requires-clause-code : goal.eval_layer-given-requires-clause-code
eval_layer-given-requires-clause-code g c κs within = c.loop-layer.invariant.code ∙ c.requires.made.code

pub loop-layer-preserved : goal.loop-layer-preserved
loop-layer-preserved g c =
    let plan = c.args.plan.now in
    let m = c.args.moment.now in
    let now = c.loop-layer.scratch in
    let seen = g.S.StreamStore.seen in
    let remembers = g.S.StreamStore.remembers in
    let length_spawn_results : length c.spawn_layer-failed.new.spawn_results ≡ now.spawn_results.len = c.spawn_layer-failed.auto.spawn_results ∙ c.deref_mut.ensures.len in
    let length_spans : length c.eval_layer-given.new.spans ≡ now.spans.len = c.eval_layer-given.auto.spans ∙ c.deref_mut-in-loop-layer-2.ensures.len in
    let spawn_results_back : take now.spawn_results.len (c.spawn_layer-failed.new.spawn_results ++ drop (length c.spawn_layer-failed.new.spawn_results) now.spawn_results.items) ≡ c.spawn_layer-failed.new.spawn_results =
    take_at c.spawn_layer-failed.new.spawn_results (drop (length c.spawn_layer-failed.new.spawn_results) now.spawn_results.items) now.spawn_results.len length_spawn_results in
    let spans_back : take now.spans.len (c.eval_layer-given.new.spans ++ drop (length c.eval_layer-given.new.spans) now.spans.items) ≡ c.eval_layer-given.new.spans =
    take_at c.eval_layer-given.new.spans (drop (length c.eval_layer-given.new.spans) now.spans.items) now.spans.len length_spans in
    let length_sought : length c.eval_layer-given.new.sought ≡ now.sought.len = c.eval_layer-given.auto.sought ∙ c.deref_mut-in-loop-layer-3.ensures.len in
    let sought_back : take now.sought.len (c.eval_layer-given.new.sought ++ drop (length c.eval_layer-given.new.sought) now.sought.items) ≡ c.eval_layer-given.new.sought =
    take_at c.eval_layer-given.new.sought (drop (length c.eval_layer-given.new.sought) now.sought.items) now.sought.len length_sought in
    let lent : c.deref.result.now ≡ c.spawn_layer-failed.new.spawn_results = c.deref.ensures.value ∙ spawn_results_back in
    let at : List SpawnResult → List Span → Type 0 =
    λ ms ps. IsSoFar plan m (c.loop-layer.layer + 1) (remembers c.args.store.now) (seen c.args.store.now) (remembers c.eval_layer-given.new.store) (seen c.eval_layer-given.new.store) ms ps c.eval_layer-given.new.places c.eval_layer-given.new.tasks c.eval_layer-given.new.results in
    let before : List SpawnResult → List Span → Type 0 =
    λ ms ps. IsSoFar plan m c.loop-layer.layer (remembers c.args.store.now) (seen c.args.store.now) (remembers c.loop-layer.store) (seen c.loop-layer.store) ms ps now.places now.tasks now.results in
    record {
      so_far =
          subst (λ ms. at ms (take now.spans.len (c.eval_layer-given.new.spans ++ drop (length c.eval_layer-given.new.spans) now.spans.items))) (sym spawn_results_back)
          (subst (λ ps. at c.spawn_layer-failed.new.spawn_results ps) (sym spans_back)
          (next_layer plan m c.loop-layer.layer (remembers c.args.store.now) (seen c.args.store.now)
          (remembers c.loop-layer.store) (seen c.loop-layer.store) (remembers c.spawn_layer-failed.new.store) (seen c.spawn_layer-failed.new.store) (remembers c.eval_layer-given.new.store) (seen c.eval_layer-given.new.store)
          c.deref_mut.result.now c.spawn_layer-failed.new.spawn_results c.deref_mut-in-loop-layer-2.result.now c.eval_layer-given.new.spans now.places c.eval_layer-given.new.places now.tasks c.eval_layer-given.new.tasks now.results c.eval_layer-given.new.results
          (subst (λ ms. before ms c.deref_mut-in-loop-layer-2.result.now) (sym c.deref_mut.ensures.value)
          (subst (λ ps. before now.spawn_results.items ps) (sym c.deref_mut-in-loop-layer-2.ensures.value) c.loop-layer.invariant.so_far))
          c.spawn_layer-failed.ensures.goes_on c.spawn_layer-failed.ensures.takes c.spawn_layer-failed.ensures.with_spawn_results
          c.eval_layer-given.ensures.at c.eval_layer-given.ensures.goes_on c.eval_layer-given.ensures.rooms c.eval_layer-given.ensures.spans
          (subst (λ ms. EvalsTake plan m c.loop-layer.layer ms (remembers c.spawn_layer-failed.new.store) (seen c.spawn_layer-failed.new.store) (remembers c.eval_layer-given.new.store) (seen c.eval_layer-given.new.store)) lent c.eval_layer-given.ensures.takes)
          (subst
          (λ ms. ShowsMore plan m c.loop-layer.layer ms (remembers c.spawn_layer-failed.new.store) (seen c.spawn_layer-failed.new.store) c.deref_mut-in-loop-layer-2.result.now now.tasks.items now.results.items c.eval_layer-given.new.spans c.eval_layer-given.new.tasks.items c.eval_layer-given.new.results.items)
          lent c.eval_layer-given.ensures.shows)));
      faultless = λ none.
          let p = or_parts c.loop-layer.faulty (c.spawn_layer-failed.result || c.eval_layer-given.result) (sym c.one_of-faulty.ensures ∙ none) in
          let q = or_parts c.spawn_layer-failed.result c.eval_layer-given.result p.1 in
          let before_it = c.loop-layer.invariant.faultless p.0 in (
            subst NoneFaulted (sym spawn_results_back) (c.spawn_layer-failed.ensures.fine q.0 (subst NoneFaulted (sym c.deref_mut.ensures.value) before_it.0)),
            c.eval_layer-given.ensures.faultless q.1 before_it.1,
          );
      known = c.eval_layer-given.ensures.known;
      spawn_results = ap length spawn_results_back ∙ (length_spawn_results ∙ (now.spawn_results.ok.0 ∙ c.loop-layer.invariant.spawn_results));
      sought = ap length sought_back ∙ (length_sought ∙ (now.sought.ok.0 ∙ c.loop-layer.invariant.sought));
      unsought = subst (AreUnsought plan) (sym sought_back) c.eval_layer-given.ensures.unsought;
      layers = c.loop-layer.invariant.layers;
      schedule = c.loop-layer.invariant.schedule;
      code = c.loop-layer.invariant.code;
      closing = c.loop-layer.invariant.closing;
      step_values = c.loop-layer.invariant.step_values;
      places_room = c.eval_layer-given.ensures.places ∙ c.loop-layer.invariant.places_room;
      tasks_room = c.eval_layer-given.ensures.capacities.0 ∙ c.loop-layer.invariant.tasks_room;
      results_room = c.eval_layer-given.ensures.capacities.1 ∙ c.loop-layer.invariant.results_room;
    }

pub returns-clause-evaluates : goal.returns-clause-evaluates
returns-clause-evaluates g c =
    all_layers c.args.plan.now c.args.moment.now c.loop-layer.layer
    (g.S.StreamStore.remembers c.args.store.now) (g.S.StreamStore.seen c.args.store.now) (g.S.StreamStore.remembers c.loop-layer.store) (g.S.StreamStore.seen c.loop-layer.store)
    c.loop-layer.scratch.spawn_results.items c.loop-layer.scratch.spans.items c.loop-layer.scratch.places c.loop-layer.scratch.tasks c.loop-layer.scratch.results
    c.requires.accepted (λ node. omega (arith, c.requires.made.layers node, c.loop-layer-test.false)) c.loop-layer.invariant.so_far
