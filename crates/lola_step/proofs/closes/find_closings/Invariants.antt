use Rattle.std.proofs.Common.{◌≡◌, drop}
use Rattle.std.specs.Vec.{vec_capacity}
use Rattle.lola_step.specs.Schedules.{has_duty}
use Rattle.lola_step.specs.declared.schedule.Duty.TheVariants as duty
use Rattle.lola_step.proofs.Between.{AreFoundBelow}
use Rattle.lola_step.proofs.Duties.{IsWalk}
use Rattle.lola_step.proofs.closes.find_closings.Given as goal

-- no stream so far has a fault, and their places are listed
abbrev pub invariant-loop-number : goal.invariant-loop-number
invariant-loop-number g l = record {
  walk : IsWalk (has_duty l.plan duty.Close) l.plan.spec.streams
      (AreFoundBelow l.plan l.moment (g.S.StreamStore.remembers l.store) (g.S.StreamStore.seen l.store) l.closing) (drop l.number-index l.duties);
  capacity : vec_capacity l.closing ≡ vec_capacity l.initial.closing;
}
