use Rattle.std.proofs.Common.{◌≡◌, drop, false}
use Rattle.lola_step.specs.Found.{NoneFaulted}
use Rattle.lola_step.specs.Schedules.{has_duty}
use Rattle.lola_step.specs.declared.schedule.Duty.TheVariants as duty
use Rattle.lola_step.proofs.SpawnDuties.{AreSpawned}
use Rattle.lola_step.proofs.Duties.{IsWalk}
use Rattle.lola_step.proofs.spawns.spawn_layer.Given as goal

abbrev pub invariant-loop-number : goal.invariant-loop-number
invariant-loop-number g l = record {
  fine : l.failed ≡ false → NoneFaulted l.initial.spawn_results → NoneFaulted l.spawn_results;
  walk : IsWalk (has_duty l.plan (duty.Spawn l.layer)) l.plan.spec.streams
      (λ n. AreSpawned l.plan l.moment l.layer n l.initial.spawn_results l.spawn_results (g.S.StreamStore.remembers l.initial.store) (g.S.StreamStore.seen l.initial.store)
      (g.S.StreamStore.remembers l.store) (g.S.StreamStore.seen l.store)) (drop l.number-index l.duties);
}
