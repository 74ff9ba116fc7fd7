use Rattle.std.proofs.Common.{drop}
use Rattle.lola_step.specs.Schedules.{has_duty}
use Rattle.lola_step.specs.declared.schedule.Duty.TheVariants as duty
use Rattle.lola_step.proofs.Between.{AreNotedBelow}
use Rattle.lola_step.proofs.Duties.{IsWalk}
use Rattle.lola_step.proofs.evals.seek_layer.Given as goal

-- of the streams so far it is noted
abbrev pub invariant-loop-number : goal.invariant-loop-number
invariant-loop-number g l =
    IsWalk (has_duty l.plan (duty.Seek l.layer)) l.plan.spec.streams (AreNotedBelow l.plan l.moment l.spawn_results (g.S.StreamStore.remembers l.store) (g.S.StreamStore.seen l.store) l.layer l.sought)
    (drop l.number-index l.duties)
