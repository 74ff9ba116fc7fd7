-- The tasks of the streams so far.
use Rattle.std.proofs.Common.{◌≡◌, drop}
use Rattle.std.specs.Vec.{vec_capacity}
use Rattle.lola_step.specs.Rates.{IsKnownAt}
use Rattle.lola_step.specs.Schedules.{has_duty}
use Rattle.lola_step.specs.declared.schedule.Duty.TheVariants as duty
use Rattle.lola_step.proofs.Between.{AreGathered}
use Rattle.lola_step.proofs.Duties.{IsWalk}
use Rattle.lola_step.proofs.evals.gather.Given as goal

abbrev pub invariant-loop-number : goal.invariant-loop-number
invariant-loop-number g l = record {
  walk : IsWalk (has_duty l.plan (duty.Eval l.layer)) l.plan.spec.streams
      (AreGathered l.plan l.moment l.spawn_results l.sought (g.S.StreamStore.seen l.store) l.layer l.initial.tasks.items l.initial.spans l.tasks.items l.spans)
      (drop l.number-index l.duties);
  known : IsKnownAt l.moment l.last;
  places_room : vec_capacity l.places ≡ vec_capacity l.initial.places;
  tasks_room : vec_capacity l.tasks ≡ vec_capacity l.initial.tasks;
}
