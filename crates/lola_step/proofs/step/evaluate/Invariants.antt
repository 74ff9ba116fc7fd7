use Rattle.std.proofs.Common.{◌≡◌, false, length}
use Rattle.std.specs.Vec.{vec_capacity}
use Rattle.lola_step.specs.Found.{IsFaultless}
use Rattle.lola_step.specs.Rates.{IsKnownAt}
use Rattle.lola_step.specs.Sought.{AreUnsought}
use Rattle.lola_step.proofs.Evaluation.{IsSoFar}
use Rattle.lola_step.proofs.step.evaluate.Given as goal

abbrev pub invariant-loop-layer : goal.invariant-loop-layer
invariant-loop-layer g l = record {
  so_far : IsSoFar l.plan l.moment l.layer (g.S.StreamStore.remembers l.initial.store) (g.S.StreamStore.seen l.initial.store) (g.S.StreamStore.remembers l.store) (g.S.StreamStore.seen l.store)
      l.scratch.spawn_results.items l.scratch.spans.items l.scratch.places l.scratch.tasks l.scratch.results;
  faultless : l.faulty ≡ false → IsFaultless l.scratch.spawn_results.items l.scratch.results.items;
  known : IsKnownAt l.moment l.last;
  spawn_results : length l.scratch.spawn_results.items ≡ length l.initial.scratch.spawn_results.items;
  sought : length l.scratch.sought.items ≡ length l.initial.scratch.sought.items;
  unsought : AreUnsought l.plan l.scratch.sought.items;
  layers : l.scratch.layers ≡ l.layer-end;
  schedule : l.scratch.schedule ≡ l.initial.scratch.schedule;
  code : l.scratch.code ≡ l.initial.scratch.code;
  closing : l.scratch.closing ≡ l.initial.scratch.closing;
  step_values : l.scratch.step_values ≡ l.initial.scratch.step_values;
  places_room : vec_capacity l.scratch.places ≡ vec_capacity l.initial.scratch.places;
  tasks_room : vec_capacity l.scratch.tasks ≡ vec_capacity l.initial.scratch.tasks;
  results_room : vec_capacity l.scratch.results ≡ vec_capacity l.initial.scratch.results;
}
