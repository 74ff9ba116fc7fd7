use Rattle.std.proofs.Common.{◌≡◌, drop}
use Rattle.std.specs.Vec.{vec_capacity}
use Rattle.lola_model.specs.Store.{no_params}
use Rattle.lola_step.specs.Found.{FitLayout}
use Rattle.lola_step.specs.Schedules.{has_duty}
use Rattle.lola_step.specs.declared.schedule.Duty.TheVariants as duty
use Rattle.lola_step.proofs.Between.{AreCollected}
use Rattle.lola_step.proofs.Duties.{IsWalk}
use Rattle.lola_step.proofs.ends.collect.Given as goal

-- the values of the streams so far
abbrev pub invariant-loop-number : goal.invariant-loop-number
invariant-loop-number g l =
    let s = g.S.StreamStore.seen l.store in
    record {
      walk : IsWalk (has_duty l.plan (duty.Shown l.fn._show)) l.plan.spec.streams (AreCollected l.plan l.fn._show s l.tasks l.results l.spans l.step_values) (drop l.number-index l.duties);
      bare : l.bare.params ≡ no_params;
      fit : FitLayout s.layout l.step_values.items;
      capacity : vec_capacity l.step_values ≡ vec_capacity l.initial.step_values;
    }
