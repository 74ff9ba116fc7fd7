use Rattle.std.proofs.Common.{◌≡◌, drop}
use Rattle.lola_step.specs.Schedules.{has_duty}
use Rattle.lola_step.specs.declared.schedule.Duty.TheVariants as duty
use Rattle.lola_step.proofs.Telling.{AreTold}
use Rattle.lola_step.proofs.Duties.{IsWalk}
use Rattle.lola_step.proofs.inputs.tell_inputs.Given as goal

abbrev pub invariant-loop-number : goal.invariant-loop-number
invariant-loop-number g l = record {
  counted : l.input ≡ l.number-index;
  walk : IsWalk (has_duty l.plan duty.Input) l.plan.spec.streams
      (λ n. AreTold l.plan l.is_row l.inputs n l.input (g.S.StreamStore.remembers l.initial.store) (g.S.StreamStore.seen l.initial.store) (g.S.StreamStore.remembers l.store) (g.S.StreamStore.seen l.store))
      (drop l.number-index l.duties);
}
